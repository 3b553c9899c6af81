-- Names that are declared, and blocks.
use Rattle.std.proofs.Common.{◌≡◌, ℕ, Bool, true, false, cond, List, [], ◌∷◌, ◌++◌, take, refl, sym, ap, subst, bytes_eq}
use Rattle.std.proofs.Math.Seq.{take-append_seam}
use Rattle.wm_scope.specs.declared.meaning.Meaning.{Meaning}
use Rattle.wm_scope.specs.declared.meaning.Meaning.TheVariants as meaning
use Rattle.wm_scope.specs.declared.meaning.Named.{Named}
use Rattle.wm_scope.specs.declared.scope.Scope.{Scope}
use Rattle.wm_scope.specs.Names.{latest}
use Rattle.wm_scope.specs.Scopes.{meaning_of, with_name, opened, closed}
use Rattle.wm_fitting.specs.Fitting.{Setting, FunctionFits, ScalarFits, ArrayFits, MeaningFits, ScopeFits}
use Rattle.wm_fitting_scopes.specs.Laws.{in_scope}

latest_behind : (word : List ℕ) (names : List Named) (named : Named) (before : Meaning)
    → latest word (names ++ named ∷ []) before ≡ cond (bytes_eq word named.name) named.meaning (latest word names before)
latest_behind word [] named before = refl
latest_behind word (x ∷ names) named before = latest_behind word names named _

-- a meaning fits by the function and by how functions are called, whatever else is in force
moved : (S : Setting) (scope : Scope) → scope.signatures ≡ (S.scope).signatures → (g : Meaning) → MeaningFits S g → MeaningFits (in_scope S scope) g
moved S scope e (meaning.Operator op) f = tt
moved S scope e (meaning.Counting call) f = tt
moved S scope e (meaning.Function function) f = record { there = f.there; result = cc; slots = cc }
moved S scope e (meaning.Scalar scalar width is_const) f = record { own = f.own; fits = f.fits; width_told = f.width_told; written = f.written }
moved S scope e (meaning.Array array width is_const) f = record { fits = f.fits; width_told = f.width_told; written = f.written }
moved S scope e meaning.Nothing f = tt

either : (S : Setting) (b : Bool) (g h : Meaning) → MeaningFits S g → MeaningFits S h → MeaningFits S (cond b g h)
either S true g h f k = f
either S false g h f k = k

pub declared_fit : (S : Setting) → ScopeFits S → (word : List ℕ) (g : Meaning) → MeaningFits S g → ScopeFits (in_scope S (with_name word g S.scope))
declared_fit S names word g f =
    let named : Named = record { name = word; meaning = g } in
    record {
      names = λ other.
          moved S (with_name word g S.scope) refl (meaning_of other (with_name word g S.scope))
          (subst (λ it. MeaningFits S it) (sym (latest_behind other (S.scope).locals named _))
          (either S (bytes_eq other word) g (meaning_of other S.scope) f (names.names other)));
    }

pub opened_fit : (S : Setting) → ScopeFits S → ScopeFits (in_scope S (opened S.scope))
opened_fit S names = record { names = λ word. moved S (opened S.scope) refl (meaning_of word S.scope) (names.names word) }

pub left_as_entered : (scope : Scope) (more : List Named) → closed scope.outer (record (opened scope) { locals = scope.locals ++ more }) ≡ scope
left_as_entered scope more = ap (λ names. record scope { locals = names }) (take-append_seam scope.locals more)
