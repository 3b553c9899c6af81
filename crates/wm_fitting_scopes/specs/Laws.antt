-- The laws.
use Rattle.std.specs.Prelude.{◌≡◌, ℕ, ◌<◌, Bool, false, not, List, ◌++◌, Some, None, slice_get}
use Rattle.wm_program.specs.declared.program.LocalInfo.{LocalInfo}
use Rattle.wm_program.specs.declared.program.ObjectInfo.{ObjectInfo}
use Rattle.wm_program.specs.WellFormed.{views_before}
use Rattle.wm_scope.specs.declared.meaning.Meaning.{Meaning}
use Rattle.wm_scope.specs.declared.meaning.Named.{Named}
use Rattle.wm_scope.specs.declared.scope.Scope.{Scope}
use Rattle.wm_scope.specs.declared.scope.Slot.{Slot}
use Rattle.wm_scope.specs.Scopes.{with_name, opened, closed}
use Rattle.wm_body.specs.Declarations.{object_meaning, local_meaning}
use Rattle.wm_reading.specs.Functions.{parameter_meaning}
use Rattle.wm_fitting.specs.Fitting.{Setting, MeaningFits, ScopeFits}

-- the same function with other names in force
abbrev pub in_scope : Setting → Scope → Setting
in_scope S scope = record S { scope = scope }

-- one more name that fits
abbrev pub DeclaredFit : Type 0
DeclaredFit = (S : Setting) → ScopeFits S → (word : List ℕ) (meaning : Meaning) → MeaningFits S meaning → ScopeFits (in_scope S (with_name word meaning S.scope))

-- a block that is entered
abbrev pub OpenedFit : Type 0
OpenedFit = (S : Setting) → ScopeFits S → ScopeFits (in_scope S (opened S.scope))

-- behind a block stand the names that stood before it, whatever it declares
abbrev pub LeftAsEntered : Type 0
LeftAsEntered = (scope : Scope) (more : List Named) → closed scope.outer (record (opened scope) { locals = scope.locals ++ more }) ≡ scope

-- what the name of an automatic variable means
abbrev pub LocalsFit : Type 0
LocalsFit =
    (S : Setting) (local : ℕ) (info : LocalInfo) → slice_get S.routine.locals local ≡ Some info → info.view ≡ false
    → (is_const : Bool) → MeaningFits S (local_meaning local info.width is_const info.array)

-- what the name of an object means
abbrev pub ObjectsFit : Type 0
ObjectsFit =
    (S : Setting) (object : ℕ) (info : ObjectInfo) → slice_get S.code.objects object ≡ Some info → object < S.own
    → (is_array : Bool) → info.scalar ≡ not is_array → MeaningFits S (object_meaning object info.width info.constant is_array)

-- what the name of a parameter means, behind so many views
abbrev pub ParametersFit : Type 0
ParametersFit =
    (S : Setting) (slot : Slot) (local : ℕ) (info : LocalInfo) → slice_get S.routine.locals local ≡ Some info
    → info.width ≡ slot.width → info.view ≡ slot.is_view → info.array ≡ None
    → MeaningFits S (parameter_meaning slot local (views_before S.routine local))
