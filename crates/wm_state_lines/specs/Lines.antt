-- What is told of the objects of static storage by the points of a state.
use Rattle.std.specs.Prelude.{ℕ, suc, ℤ, ◌≡◌, Bool, true, false, List, [], ◌∷◌, length, slice_get, Option, Some, None}
use Rattle.wm_arrays.specs.declared.summary.Summary.{Summary}
use Rattle.wm_arrays.specs.declared.state_line.StateLine.{StateLine}
use Rattle.wm_arrays.specs.Meaning.{IsLeastFor}
use Rattle.wm_domain.specs.Points.{Point}
use Rattle.wm_domain.specs.Changes.{IsValueOf, IsCellOf}
use Rattle.wm_flow.specs.declared.seats.Seat.{Seat}
use Rattle.wm_flow.specs.declared.seats.Seat.TheVariants as seat
use Rattle.wm_program.specs.declared.program.ObjectInfo.{ObjectInfo}

-- a line for each object of which something is told
abbrev pub lines_from : (object : ℕ) → List (Option Summary) → List StateLine
lines_from object [] = []
lines_from object (None ∷ rest) = lines_from (suc object) rest
lines_from object (Some summary ∷ rest) = record { object = object; summary = summary } ∷ lines_from (suc object) rest

-- the least summary of these numbers is told
abbrev pub IsSummary : (ℤ → Type 0) → Option Summary → Type 0
IsSummary Is None = ⊥
IsSummary Is (Some summary) = IsLeastFor Is summary

module _ (Has : Point → Type 0) where
  -- of a state scalar its numbers, of an array the numbers of its set cells; of a const object nothing
  abbrev pub IsSeated : Seat → Option Summary → Type 0
  IsSeated (seat.State k) told = IsSummary (IsValueOf Has k) told
  IsSeated (seat.Input k) told = told ≡ None
  IsSeated (seat.Array k) told = IsSummary (IsCellOf Has k) told
  IsSeated (seat.Constant low high) told = told ≡ None

  -- of an input nothing
  abbrev pub IsToldOf : (input : Bool) → Seat → Option Summary → Type 0
  IsToldOf true place told = told ≡ None
  IsToldOf false place told = IsSeated place told

  -- what is told of each object
  pub record AreTold (objects : List ObjectInfo) (seats : List Seat) (told : List (Option Summary)) : Type 0 where
    pub count : length told ≡ length objects
    pub each : (k : ℕ) (object : ObjectInfo) (place : Seat) (own : Option Summary) → slice_get objects k ≡ Some object → slice_get seats k ≡ Some place → slice_get told k ≡ Some own
        → IsToldOf object.input place own

  -- the lines of the objects of which something is told, in their order
  pub record AreLines (objects : List ObjectInfo) (seats : List Seat) (lines : List StateLine) : Type 0 where
    pub told : List (Option Summary)
    pub are_told : AreTold objects seats told
    pub are_lines : lines ≡ lines_from 0 told
