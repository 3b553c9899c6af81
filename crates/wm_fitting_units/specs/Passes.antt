-- What fits a program while a unit is read: what its names mean, and what the program has of it.
use Rattle.std.specs.Prelude.{◌≡◌, ℕ, ◌<◌, Bool, true, false, not, List, length, map, Option, Some, None, slice_get}
use Rattle.std.specs.List.{All}
use Rattle.wm_lang.specs.declared.statement.Block.{Block}
use Rattle.wm_lang.specs.declared.statement.Statement.{Statement}
use Rattle.wm_lang.specs.declared.unit.Function.{Function}
use Rattle.wm_lang.specs.declared.unit.Item.{Item}
use Rattle.wm_lang.specs.declared.unit.Item.TheVariants as forms
use Rattle.wm_ops.specs.declared.operators.Width.{Width}
use Rattle.wm_program.specs.declared.program.FunctionInfo.{FunctionInfo}
use Rattle.wm_program.specs.declared.program.ObjectInfo.{ObjectInfo}
use Rattle.wm_program.specs.declared.tree.Array.{Array}
use Rattle.wm_program.specs.declared.tree.Array.TheVariants as array
use Rattle.wm_program.specs.declared.tree.Scalar.{Scalar}
use Rattle.wm_program.specs.declared.tree.Scalar.TheVariants as scalar
use Rattle.wm_program.specs.Code.{Code, routine_of}
use Rattle.wm_program.specs.WellFormed.{Has, ObjectFits, RoutineFits, routine_slots}
use Rattle.wm_scope.specs.declared.meaning.Meaning.{Meaning}
use Rattle.wm_scope.specs.declared.meaning.Meaning.TheVariants as meaning
use Rattle.wm_scope.specs.declared.reading.CallPlace.{CallPlace}
use Rattle.wm_scope.specs.declared.reading.Reading.{Reading}
use Rattle.wm_scope.specs.declared.scope.Signature.{Signature}
use Rattle.wm_reading.specs.declared.outline.Outline.{Outline}
use Rattle.wm_reading.specs.declared.unit.Pass.{Pass}
use Rattle.wm_reading.specs.Reading.{offsets_at}
use Rattle.wm_fitting.specs.Fitting.{slot_seen}
use Rattle.wm_fitting_declarations.specs.PlainDeclarations.{IsPlainDeclaration}
use Rattle.wm_fitting_declarations.specs.Works.{LikeObject, LoopFits}
use Rattle.wm_fitting_functions.specs.Units.{AreOffsets, IsPlainFunction}

-- ---- what the reading asks of a unit

abbrev pub IsPlainBody : Function → Option (Block Statement) → Type 0
IsPlainBody it None = Unit {0}
IsPlainBody it (Some block) = IsPlainFunction it block

-- expressions are plain, and each parameter of a function with a block has a name
abbrev pub IsPlainItem : Item → Type 0
IsPlainItem (forms.Objects it) = IsPlainDeclaration it
IsPlainItem (forms.Function it) = IsPlainBody it it.body
IsPlainItem (forms.Struct it) = Unit {0}
IsPlainItem (forms.StructObjects it) = Unit {0}

-- ---- what names mean

-- an object that is a scalar or an array
pub record IsObject (width : Width) (is_const is_array : Bool) (info : ObjectInfo) : Type 0 where
  pub width_told : info.width ≡ width
  pub const_told : info.constant ≡ is_const
  pub scalar_told : info.scalar ≡ not is_array

abbrev pub IsScalarMeant : List ObjectInfo → Scalar → Width → Bool → Type 0
IsScalarMeant objects scalar.Overflow width is_const = ⊥
IsScalarMeant objects (scalar.Object object) width is_const = Has objects object (IsObject width is_const false)
IsScalarMeant objects (scalar.Local local) width is_const = ⊥

abbrev pub IsArrayMeant : List ObjectInfo → Array → Width → Bool → Type 0
IsArrayMeant objects (array.Object object) width is_const = Has objects object (IsObject width is_const true)
IsArrayMeant objects (array.Local local) width is_const = ⊥
IsArrayMeant objects (array.View local number) width is_const = ⊥

-- what a name of file scope means is among the objects, or below so many functions
abbrev pub IsMeant : List ObjectInfo → ℕ → Meaning → Type 0
IsMeant objects count (meaning.Operator op) = ⊥
IsMeant objects count (meaning.Counting call) = ⊥
IsMeant objects count (meaning.Function function) = function < count
IsMeant objects count (meaning.Scalar scalar width is_const) = IsScalarMeant objects scalar width is_const
IsMeant objects count (meaning.Array array width is_const) = IsArrayMeant objects array width is_const
IsMeant objects count meaning.Nothing = ⊥

-- a function with the result and the parameters by which it is called
pub record IsSigned (signature : Signature) (info : FunctionInfo) : Type 0 where
  pub result : info.result ≡ signature.result
  pub slots : routine_slots (routine_of info) ≡ map slot_seen signature.slots

-- what was declared was made, at the same numbers
pub record Agrees (o : Outline) (p : Pass) : Type 0 where
  pub objects : o.objects ≡ length p.work.objects
  pub functions : length o.work.scope.signatures ≡ length p.functions
  pub signatures : (k : ℕ) (signature : Signature) (info : FunctionInfo) → slice_get o.work.scope.signatures k ≡ Some signature → slice_get p.functions k ≡ Some info → IsSigned signature info
  pub names : All (λ named. IsMeant p.work.objects (length p.functions) named.meaning) o.work.scope.file

-- ---- what the program has of it

-- as it is in the program, inputs aside
pub record SameObject (info it : ObjectInfo) : Type 0 where
  pub like : LikeObject info it
  pub addressed : it.addressed ≡ info.addressed

-- the program has what was read, at the same numbers
pub record Contains (code : Code) (offsets : List (List ℕ)) (reading : Reading) : Type 0 where
  pub functions : (k : ℕ) (info : FunctionInfo) → slice_get reading.functions k ≡ Some info → slice_get code.routines k ≡ Some (routine_of info)
  pub objects : (k : ℕ) (info : ObjectInfo) → slice_get reading.objects k ≡ Some info → Has code.objects k (SameObject info)
  pub sites : code.sites ≡ reading.sites
  pub loops : code.loops ≡ reading.loops
  -- each call of each function has an offset
  pub calls : (k : ℕ) (places : List CallPlace) → slice_get reading.calls k ≡ Some places → AreOffsets (offsets_at k offsets) (length places)

-- functions, objects and loops are well formed
pub record ReadingFits (code : Code) (reading : Reading) : Type 0 where
  pub functions : (k : ℕ) (info : FunctionInfo) → slice_get reading.functions k ≡ Some info → RoutineFits code k (routine_of info)
  pub objects : All ObjectFits reading.objects
  pub loops : All (LoopFits code) reading.loops
