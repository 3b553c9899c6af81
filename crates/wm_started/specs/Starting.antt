-- The points with which a run starts: at the first node each scalar of static storage has the number that it begins with,
-- Overflow is 0, each array of static storage has its first cells, and no other array has a set cell.
use Rattle.std.specs.Prelude.{ℕ, ◌≡◌, ◌≢◌, Bool, true, false, List, [], ◌∷◌, ℤ, pos, ◌≤ℤ◌, Option, Some, None, slice_index_or}
use Rattle.wm_program.specs.declared.program.ObjectInfo.{ObjectInfo}
use Rattle.wm_program.specs.declared.program.Program.{Program}
use Rattle.wm_program.specs.Code.{Code, code_of, function_of}
use Rattle.wm_domain.specs.Points.{Point}
use Rattle.wm_flow.specs.declared.scene.Bases.{Bases}
use Rattle.wm_flow.specs.declared.seats.Counts.{Counts}
use Rattle.wm_flow.specs.declared.seats.Seat.{Seat}
use Rattle.wm_flow.specs.declared.seats.Seat.TheVariants as seat
use Rattle.wm_flow.specs.declared.seats.Tables.{Tables}
use Rattle.wm_flow.specs.Seats.{counts_in, low_of, high_of, no_local_counts, tables_of}
use Rattle.wm_flow.specs.Places.{state_place, input_place, overflow_place}

-- ---- the first node: that of init's instance or, without init, one of the shape of the frame head, which has no inputs

abbrev pub has_inputs : Option ℕ → Bool
has_inputs None = false
has_inputs (Some init) = true

abbrev pub without_inputs : Counts → Counts
without_inputs counts = record counts { inputs = 0 }

abbrev pub bases_at : Code → Tables → Option ℕ → Bases
bases_at code tables None =
    record { counts = without_inputs tables.counts; locals = no_local_counts; loops = 0; sums = 0 }
bases_at code tables (Some init) =
    record { counts = tables.counts; locals = counts_in tables.local_counts (function_of code init); loops = 0; sums = 0 }

abbrev pub first_bases : Code → Tables → Bases
first_bases code tables = bases_at code tables code.init

-- ---- objects

abbrev pub first_number : ObjectInfo → ℤ
first_number object = slice_index_or object.initial 0 (pos 0)

-- the variable of an object, where there is one; inputs may not be there
abbrev pub input_variable : (inputs : Bool) → (v : ℕ) → Option ℕ
input_variable true v = Some v
input_variable false v = None

abbrev pub variable_of : Bases → (inputs : Bool) → Seat → Option ℕ
variable_of bases inputs (seat.State k) = Some (state_place bases k)
variable_of bases inputs (seat.Input k) = input_variable inputs (input_place bases k)
variable_of bases inputs (seat.Array k) = None
variable_of bases inputs (seat.Constant low high) = None

abbrev pub array_of : Seat → Option ℕ
array_of (seat.State k) = None
array_of (seat.Input k) = None
array_of (seat.Array k) = Some k
array_of (seat.Constant low high) = None

-- the variable has the number
abbrev pub NumberAt : Option ℕ → ℤ → Point → Type 0
NumberAt None z p = Unit {0}
NumberAt (Some v) z p = p.values v ≡ z

-- a cell lies between the least and the greatest of the first cells, or is unset
abbrev pub CellBegins : ObjectInfo → Option ℤ → Type 0
CellBegins object None = Unit {0}
CellBegins object (Some z) = (low_of object.length object.initial ≤ℤ z) × (z ≤ℤ high_of object.length object.initial)

abbrev pub CellsAt : Option ℕ → ObjectInfo → Point → Type 0
CellsAt None object p = Unit {0}
CellsAt (Some a) object p = CellBegins object (p.cells a)

abbrev pub IsOther : ℕ → Option ℕ → Type 0
IsOther a None = Unit {0}
IsOther a (Some k) = a ≢ k

-- each scalar has the number that its object begins with
abbrev pub AllNumbers : Bases → (inputs : Bool) → List Seat → List ObjectInfo → Point → Type 0
AllNumbers bases inputs seats [] p = Unit {0}
AllNumbers bases inputs [] (object ∷ objects) p = Unit {0}
AllNumbers bases inputs (seat ∷ seats) (object ∷ objects) p =
    NumberAt (variable_of bases inputs seat) (first_number object) p × AllNumbers bases inputs seats objects p

-- each array has the cells that its object begins with
abbrev pub AllCells : List Seat → List ObjectInfo → Point → Type 0
AllCells seats [] p = Unit {0}
AllCells [] (object ∷ objects) p = Unit {0}
AllCells (seat ∷ seats) (object ∷ objects) p = CellsAt (array_of seat) object p × AllCells seats objects p

-- the array is none of those of static storage
abbrev pub IsAutomatic : ℕ → List Seat → List ObjectInfo → Type 0
IsAutomatic a seats [] = Unit {0}
IsAutomatic a [] (object ∷ objects) = Unit {0}
IsAutomatic a (seat ∷ seats) (object ∷ objects) = IsOther a (array_of seat) × IsAutomatic a seats objects

-- ---- the whole

pub record StartsWith (bases : Bases) (inputs : Bool) (seats : List Seat) (objects : List ObjectInfo) (p : Point) : Type 0 where
  pub numbers : AllNumbers bases inputs seats objects p
  pub cells : AllCells seats objects p
  pub flag : p.values (overflow_place bases) ≡ pos 0
  pub unset : (a : ℕ) → IsAutomatic a seats objects → p.cells a ≡ None

abbrev pub StartsIn : Code → Tables → Point → Type 0
StartsIn code tables p = StartsWith (first_bases code tables) (has_inputs code.init) tables.objects code.objects p

-- a point with which a run of the program starts
abbrev pub Starts : Program → Point → Type 0
Starts program p = StartsIn (code_of program) (tables_of (code_of program)) p
