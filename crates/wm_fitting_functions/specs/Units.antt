-- What fits a program while the items of a unit are read.
use Rattle.std.specs.Prelude.{◌≡◌, ℕ, ◌<◌, ◌≤◌, true, List, length, map, Option, Some, None, slice_get}
use Rattle.std.specs.List.{All}
use Rattle.std.specs.Option.{option_map_or}
use Rattle.wm_lang.specs.declared.expression.Identifier.{Identifier}
use Rattle.wm_lang.specs.declared.statement.Statement.{Statement}
use Rattle.wm_lang.specs.declared.statement.Block.{Block}
use Rattle.wm_lang.specs.declared.unit.Function.{Function}
use Rattle.wm_lang.specs.declared.unit.Parameter.{Parameter}
use Rattle.wm_program.specs.declared.program.FunctionInfo.{FunctionInfo}
use Rattle.wm_program.specs.declared.program.LoopInfo.{LoopInfo}
use Rattle.wm_program.specs.declared.program.ObjectInfo.{ObjectInfo}
use Rattle.wm_program.specs.declared.program.SiteInfo.{SiteInfo}
use Rattle.wm_program.specs.Code.{Code, Routine, routine_of}
use Rattle.wm_program.specs.WellFormed.{Has, ObjectFits, RoutineFits, routine_slots}
use Rattle.wm_scope.specs.declared.scope.Scope.{Scope}
use Rattle.wm_source.specs.Pieces.{written_items}
use Rattle.wm_marks.specs.Marking.{has}
use Rattle.wm_body.specs.declared.work.Work.{Work}
use Rattle.wm_reading.specs.Functions.{begun_scope}
use Rattle.wm_reading.specs.Outlines.{maybe_width, slots_of}
use Rattle.wm_fitting.specs.Fitting.{ScopeFits, slot_seen}
use Rattle.wm_fitting_declarations.specs.Works.{LikeObject, LoopFits}
use Rattle.wm_fitting_statements.specs.PlainPieces.{ArePlainPieces}

-- what was collected and made of the items stands in the program at its numbers
pub record UnitStands (code : Code) (own : ℕ) (w : Work) : Type 0 where
  pub sites : (k : ℕ) (it : SiteInfo) → slice_get w.marks.sites k ≡ Some it → slice_get code.sites k ≡ Some it
  pub loops : (k : ℕ) (it : LoopInfo) → slice_get w.marks.loops k ≡ Some it → slice_get code.loops k ≡ Some it
  pub addresses : (k : ℕ) → has k w.marks.objects ≡ true → k < own → (it : ObjectInfo) → slice_get code.objects k ≡ Some it → it.addressed ≡ true
  pub objects : (k : ℕ) (info : ObjectInfo) → slice_get w.objects k ≡ Some info → Has code.objects k (LikeObject info)
  pub count : length w.objects ≤ own

-- it only grows, and a fault stays
pub record UnitGrows (v w : Work) : Type 0 where
  pub sites : (k : ℕ) (it : SiteInfo) → slice_get v.marks.sites k ≡ Some it → slice_get w.marks.sites k ≡ Some it
  pub loops : (k : ℕ) (it : LoopInfo) → slice_get v.marks.loops k ≡ Some it → slice_get w.marks.loops k ≡ Some it
  pub addresses : (k : ℕ) → has k v.marks.objects ≡ true → has k w.marks.objects ≡ true
  pub objects : (k : ℕ) (info : ObjectInfo) → slice_get v.objects k ≡ Some info → slice_get w.objects k ≡ Some info
  pub object_count : length v.objects ≤ length w.objects
  pub least : w.marks.least ≡ None → v.marks.least ≡ None
  pub file : w.scope.file ≡ v.scope.file
  pub signatures : w.scope.signatures ≡ v.scope.signatures

-- the objects and the loops so far
pub record UnitFits (code : Code) (w : Work) : Type 0 where
  pub objects : All ObjectFits w.objects
  pub loops : All (LoopFits code) w.marks.loops

-- the names of file scope fit in each function
abbrev pub FileFits : Code → ℕ → Scope → Type 0
FileFits code own scope =
    (routine : Routine) (offsets : List ℕ) → ScopeFits (record { code = code; routine = routine; scope = begun_scope offsets scope; own = own })

-- so many calls have an offset
abbrev pub AreOffsets : List ℕ → ℕ → Type 0
AreOffsets offsets count = (k : ℕ) → k < count → 0 < option_map_or (λ offset. offset) (slice_get offsets k) 0

-- each parameter of a function with a block has a name
abbrev pub IsThere : Option Identifier → Type 0
IsThere None = ⊥
IsThere (Some name) = Unit {0}

abbrev pub IsNamed : Parameter → Type 0
IsNamed parameter = IsThere parameter.name

-- what the reading of a function asks of it
pub record IsPlainFunction (it : Function) (block : Block Statement) : Type 0 where
  pub parameters : All IsNamed it.parameters
  pub body : ArePlainPieces (written_items block.items)

-- what the reading of a function gives
pub record FunctionReads (code : Code) (own number : ℕ) (offsets : List ℕ) (it : Function) (v : Work) (given : FunctionInfo × Work) : Type 0 where
  pub grows : UnitGrows v given.1
  pub result : given.0.result ≡ maybe_width it.result
  pub slots : routine_slots (routine_of given.0) ≡ map slot_seen (slots_of it.parameters)
  pub fits : given.1.marks.least ≡ None → UnitStands code own given.1 → AreOffsets offsets (length given.1.marks.calls) → FileFits code own v.scope → number < length code.routines → UnitFits code v
      → RoutineFits code number (routine_of given.0) × UnitFits code given.1
