-- The laws.
use Rattle.std.specs.Prelude.{◌≡◌, ℕ, ◌<◌, true, List, ◌++◌, length, Some, None, slice_get}
use Rattle.std.specs.List.{All}
use Rattle.wm_lang.specs.declared.unit.Unit.{Unit as Source}
use Rattle.wm_program.specs.declared.program.FunctionInfo.{FunctionInfo}
use Rattle.wm_program.specs.declared.spec.Spec.{Spec}
use Rattle.wm_program.specs.Code.{Code, code_of, routine_at, routine_of}
use Rattle.wm_program.specs.WellFormed.{Has, ObjectFits, RoutineFits}
use Rattle.wm_scope.specs.declared.reading.CallPlace.{CallPlace}
use Rattle.wm_scope.specs.declared.reading.Reading.{Reading}
use Rattle.wm_calls.specs.Sizes.{offsets_of}
use Rattle.wm_inputs.specs.Chooser.{chooser}
use Rattle.wm_inputs.specs.Entries.{entries_of}
use Rattle.wm_assemble.specs.declared.plan.Started.{Started}
use Rattle.wm_assemble.specs.Linked.{finished}
use Rattle.wm_reading.specs.Reading.{offsets_at, read_unit}
use Rattle.wm_fitting_functions.specs.Units.{AreOffsets}
use Rattle.wm_fitting_units.specs.Passes.{IsPlainItem}

-- each call of each function has an offset of at least 1
abbrev pub HasOffsets : List (List ℕ) → List (List CallPlace) → Type 0
HasOffsets offsets calls = (k : ℕ) (places : List CallPlace) → slice_get calls k ≡ Some places → AreOffsets (offsets_at k offsets) (length places)

-- the functions of the source, the objects and the loops are well formed
pub record PartsFit (code : Code) (reading : Reading) : Type 0 where
  pub there : (k : ℕ) (info : FunctionInfo) → slice_get reading.functions k ≡ Some info → slice_get code.routines k ≡ Some (routine_of info)
  pub functions : (k : ℕ) (info : FunctionInfo) → slice_get reading.functions k ≡ Some info → RoutineFits code k (routine_of info)
  pub objects : All ObjectFits code.objects
  pub loops : All (λ it. (it.function < length code.routines) × (0 < it.step) × (it.step < 32768)) code.loops

-- a program that is made of a second way through the unit without fault
abbrev pub ProgramsFit : Type 0
ProgramsFit =
    (unit : Source) → All IsPlainItem unit.items → (spec : Spec) (started : Started)
    → (read_unit unit started.offsets).least ≡ None → HasOffsets started.offsets (read_unit unit started.offsets).calls
    → PartsFit (code_of (finished spec started (read_unit unit started.offsets))) (read_unit unit started.offsets)

-- the offsets that are told of calls, and of those of the function that chooses behind them
abbrev pub OffsetsCount : Type 0
OffsetsCount = (sizes : List ℕ) (calls more : List (List CallPlace)) → HasOffsets (offsets_of sizes (calls ++ more)) calls

-- a frame function is there and has no parameters
pub record IsFrame (code : Code) (function : ℕ) : Type 0 where
  pub there : function < length code.routines
  pub parameters : (routine_at code function).parameters ≡ 0

-- the function that chooses between the frame functions by the number of an object
abbrev pub ChoosersFit : Type 0
ChoosersFit =
    (code : Code) (number object : ℕ) (sizes frames : List ℕ) → Has code.objects object (λ it. it.scalar ≡ true) → All (IsFrame code) frames → length frames < 2147483647
    → RoutineFits code number (routine_of (chooser object sizes frames))

-- the frame functions of a program that has these functions
abbrev pub FramesFit : Type 0
FramesFit =
    (code : Code) (functions : List FunctionInfo) → ((k : ℕ) (info : FunctionInfo) → slice_get functions k ≡ Some info → slice_get code.routines k ≡ Some (routine_of info))
    → (names : List (List ℕ)) → All (IsFrame code) (entries_of functions names)
