-- What fits a program while expressions are read: the names of a scope, what was collected, and what an expression is.
use Rattle.std.specs.Prelude.{◌≡◌, ℕ, ◌<◌, ◌≤◌, Bool, true, false, List, length, map, Some, None, slice_get}
use Rattle.wm_ops.specs.declared.operators.Width.{Width}
use Rattle.wm_program.specs.declared.program.LocalInfo.{LocalInfo}
use Rattle.wm_program.specs.declared.program.LoopInfo.{LoopInfo}
use Rattle.wm_program.specs.declared.program.ObjectInfo.{ObjectInfo}
use Rattle.wm_program.specs.declared.program.SiteInfo.{SiteInfo}
use Rattle.wm_program.specs.declared.program.SiteKind.TheVariants as kind
use Rattle.wm_program.specs.declared.tree.Array.{Array}
use Rattle.wm_program.specs.declared.tree.Expr.{Expr}
use Rattle.wm_program.specs.declared.tree.Scalar.{Scalar}
use Rattle.wm_program.specs.declared.tree.Scalar.TheVariants as scalar
use Rattle.wm_program.specs.declared.tree.View.{View}
use Rattle.wm_program.specs.declared.tree.View.TheVariants as view
use Rattle.wm_program.specs.Code.{Code, Routine, routine_at}
use Rattle.wm_program.specs.Trees.{expression_of, test_of, effect_of}
use Rattle.wm_program.specs.WellFormed.{IsSite, Slot, FitsScalar, FitsArray, scalar_width, array_width, needs_site, FitsExpression, FitsTest, FitsEffect, IsWritten, IsWrittenArray, routine_slots}
use Rattle.wm_scope.specs.declared.meaning.Meaning.{Meaning}
use Rattle.wm_scope.specs.declared.meaning.Meaning.TheVariants as meaning
use Rattle.wm_scope.specs.declared.scope.Scope.{Scope}
use Rattle.wm_scope.specs.declared.scope.Slot.{Slot as Parameter}
use Rattle.wm_scope.specs.Scopes.{meaning_of, offset_of, slots_of, result_of}
use Rattle.wm_marks.specs.declared.marks.Marks.{Marks}
use Rattle.wm_marks.specs.Marking.{has}
use Rattle.wm_value.specs.declared.form.Sight.{Sight}
use Rattle.wm_value.specs.declared.form.Value.{Value}
use Rattle.wm_value.specs.declared.form.Value.TheVariants.{Number, Truth, View as Seen, LostView, Function, Effect, Nothing}

-- a program, one of its functions, the names in force at a place of this function, and the number of the objects that the
-- source declares
pub record Setting : Type 0 where
  pub code : Code
  pub routine : Routine
  pub scope : Scope
  pub own : ℕ

-- ---- names

abbrev pub slot_seen : Parameter → Slot
slot_seen slot = record { width = slot.width; view = slot.is_view }

-- a function that a name means is there, with this result and these parameters
pub record FunctionFits (S : Setting) (function : ℕ) : Type 0 where
  pub there : function < length S.code.routines
  pub result : result_of function S.scope ≡ (routine_at S.code function).result
  pub slots : map slot_seen (slots_of function S.scope) ≡ routine_slots (routine_at S.code function)

-- an object is one of the source
abbrev pub IsOwn : ℕ → Scalar → Type 0
IsOwn own scalar.Overflow = Unit {0}
IsOwn own (scalar.Object object) = object < own
IsOwn own (scalar.Local local) = Unit {0}

pub record ScalarFits (S : Setting) (scalar : Scalar) (width : Width) (is_const : Bool) : Type 0 where
  pub own : IsOwn S.own scalar
  pub fits : FitsScalar S.code S.routine scalar
  pub width_told : scalar_width S.code S.routine scalar ≡ width
  pub written : is_const ≡ false → IsWritten S.code S.routine scalar

pub record ArrayFits (S : Setting) (array : Array) (width : Width) (is_const : Bool) : Type 0 where
  pub fits : FitsArray S.code S.routine array
  pub width_told : array_width S.code S.routine array ≡ width
  pub written : is_const ≡ false → IsWrittenArray S.code S.routine array

abbrev pub MeaningFits : Setting → Meaning → Type 0
MeaningFits S (meaning.Operator op) = Unit {0}
MeaningFits S (meaning.Counting call) = Unit {0}
MeaningFits S (meaning.Function function) = FunctionFits S function
MeaningFits S (meaning.Scalar scalar width is_const) = ScalarFits S scalar width is_const
MeaningFits S (meaning.Array array width is_const) = ArrayFits S array width is_const
MeaningFits S meaning.Nothing = Unit {0}

-- what each name means is there
pub record ScopeFits (S : Setting) : Type 0 where
  pub names : (word : List ℕ) → MeaningFits S (meaning_of word S.scope)

-- ---- what was collected

-- what was collected stands in the program: sites and loops at their numbers, what is there has its address taken where it was
-- taken, and an offset for each call
pub record Stands (S : Setting) (m : Marks) : Type 0 where
  pub sites : (k : ℕ) (it : SiteInfo) → slice_get m.sites k ≡ Some it → slice_get S.code.sites k ≡ Some it
  pub loops : (k : ℕ) (it : LoopInfo) → slice_get m.loops k ≡ Some it → slice_get S.code.loops k ≡ Some it
  pub objects : (k : ℕ) → has k m.objects ≡ true → k < S.own → (it : ObjectInfo) → slice_get S.code.objects k ≡ Some it → it.addressed ≡ true
  pub locals : (k : ℕ) → has k m.locals ≡ true → (it : LocalInfo) → slice_get S.routine.locals k ≡ Some it → it.addressed ≡ true
  pub calls : (k : ℕ) → k < length m.calls → 0 < offset_of k S.scope

-- what was collected only grows, loops aside, which an expression has none of; and a fault stays
pub record Grows (m n : Marks) : Type 0 where
  pub sites : (k : ℕ) (it : SiteInfo) → slice_get m.sites k ≡ Some it → slice_get n.sites k ≡ Some it
  pub loops : n.loops ≡ m.loops
  pub objects : (k : ℕ) → has k m.objects ≡ true → has k n.objects ≡ true
  pub locals : (k : ℕ) → has k m.locals ≡ true → has k n.locals ≡ true
  pub calls : length m.calls ≤ length n.calls
  pub least : n.least ≡ None → m.least ≡ None

-- What a step gives that begins with `m`: what was collected grows; and where no fault is noted up to its end, and what was
-- collected up to its end stands in the program, its value has the property.
pub record Good {A : Type 0} (S : Setting) (Q : A → Type 0) (m : Marks) (given : A × Marks) : Type 0 where
  pub grows : Grows m given.1
  pub fits : given.1.least ≡ None → Stands S given.1 → Q given.0

-- ---- expressions

-- an expression that fits, and the types to which its number goes by a site
pub record FitsNumber (S : Setting) (narrow : Width → Bool) (x : Expr) : Type 0 where
  pub fits : FitsExpression S.code S.routine (expression_of x)
  pub needs : (to : Width) → needs_site S.code S.routine (expression_of x) to ≡ narrow to

-- a part of an array of which this is known by its name
abbrev pub FitsView : Setting → View Expr → Sight → Type 0
FitsView S (view.Whole array) sight =
    FitsArray S.code S.routine array × (array_width S.code S.routine array ≡ sight.width)
FitsView S (view.From array index site) sight =
    FitsArray S.code S.routine array × (array_width S.code S.routine array ≡ sight.width)
    × FitsExpression S.code S.routine (expression_of index) × IsSite S.code site kind.View

-- what an expression is; what is no value of a faultless one does not fit
abbrev pub FitsAs : Setting → (Width → Bool) → Value → Type 0
FitsAs S narrow (Number x) = FitsNumber S narrow x
FitsAs S narrow (Truth c) = FitsTest S.code S.routine (test_of c)
FitsAs S narrow (Seen view sight) = FitsView S view sight
FitsAs S narrow LostView = ⊥
FitsAs S narrow Function = Unit {0}
FitsAs S narrow (Effect effect) = FitsEffect S.code S.routine (effect_of effect)
FitsAs S narrow Nothing = ⊥
