-- Concrete states at a node: the numbers of its variables in their order, and the cells of its arrays.
use Rattle.std.specs.Prelude.{◌≡◌, ℕ, zero, suc, ◌+◌, ◌-◌, ◌<◌, Bool, true, false, if◌then◌else◌, nat_lt, List, [], ◌∷◌, ◌++◌, length, ℤ, pos, ◌≤ℤ◌, Option, Some, None, slice_get, IfSome}
use Rattle.std.specs.List.{All, Contains}
use Rattle.wm_flow.specs.Plain.{Range, Layout}
use Rattle.wm_flow.specs.Kept.{at}

pub record Within (range : Range) (z : ℤ) : Type 0 where
  pub low : range.low ≤ℤ z
  pub high : z ≤ℤ range.high

-- what a node holds in a run; a cell may be unset
pub record Store : Type 0 where
  pub point : List ℤ
  pub cells : List (List (Option ℤ))

abbrev pub variables : Layout → List Range
variables layout = layout.group ++ layout.singles

-- each number lies in the range at its place
abbrev pub Fits : List Range → List ℤ → Type 0
Fits [] [] = Unit {0}
Fits [] (z ∷ rest) = ⊥
Fits (range ∷ ranges) [] = ⊥
Fits (range ∷ ranges) (z ∷ rest) = Within range z × Fits ranges rest

-- each cell that is set lies in the range, and none is set where there is none
abbrev pub CellIn : Option Range → Option ℤ → Type 0
CellIn summary None = Unit {0}
CellIn None (Some z) = ⊥
CellIn (Some range) (Some z) = Within range z

abbrev pub CellsIn : Option Range → List (Option ℤ) → Type 0
CellsIn summary cells = All (CellIn summary) cells

abbrev pub ArraysFit : List Range → List (List (Option ℤ)) → Type 0
ArraysFit [] [] = Unit {0}
ArraysFit [] (cells ∷ rest) = ⊥
ArraysFit (range ∷ ranges) [] = ⊥
ArraysFit (range ∷ ranges) (cells ∷ rest) = CellsIn (Some range) cells × ArraysFit ranges rest

-- a store of a layout: all its numbers lie in their full ranges
pub record StoreOf (layout : Layout) (store : Store) : Type 0 where
  pub numbers : Fits (variables layout) store.point
  pub arrays : ArraysFit layout.arrays store.cells

-- ---- nodes that follow each other: the group, the singles and the arrays are paired each by place

-- from which variable one comes: none where only the target has it
abbrev pub origin_in : (first count : ℕ) → (k : ℕ) → Option ℕ
origin_in first count k = if nat_lt k count then Some (first + k) else None

unfoldable pub origin : Layout → Layout → ℕ → Option ℕ
origin source target v =
    if nat_lt v (length target.group)
    then origin_in 0 (length source.group) v
    else origin_in (length source.group) (length source.singles) (v - length target.group)

-- the variable has the number of the one from which it comes
abbrev pub Keeps : List ℤ → List ℤ → ℕ → Option ℕ → Type 0
Keeps before after v None = Unit {0}
Keeps before after v (Some w) = at after v ≡ at before w

-- every variable of the target but some keeps its number
abbrev pub FollowsBut : Layout → Layout → List ℕ → List ℤ → List ℤ → Type 0
FollowsBut source target changed before after =
    (v : ℕ) → v < length (variables target) → (Contains changed v → ⊥) → Keeps before after v (origin source target v)

-- a step that changes some variables alone
pub record Carries (source target : Layout) (changed : List ℕ) (before after : Store) : Type 0 where
  pub follows : FollowsBut source target changed before.point after.point
  pub cells : after.cells ≡ before.cells

-- ---- picks: from where each variable or array comes

abbrev pub Picked : {A : Type 0} → List A → A → Option ℕ → Type 0
Picked from x None = Unit {0}
Picked from x (Some k) = slice_get from k ≡ Some x

-- each item that has an origin is the item there
abbrev pub Picks : {A : Type 0} → List A → List (Option ℕ) → List A → Type 0
Picks from [] [] = Unit {0}
Picks from [] (x ∷ rest) = ⊥
Picks from (pick ∷ picks) [] = ⊥
Picks from (pick ∷ picks) (x ∷ rest) = Picked from x pick × Picks from picks rest

-- an array that comes from nowhere has no cell that is set
abbrev pub PickedCells : List (List (Option ℤ)) → List (Option ℤ) → Option ℕ → Type 0
PickedCells from cells None = CellsIn None cells
PickedCells from cells (Some k) = slice_get from k ≡ Some cells

abbrev pub PicksCells : List (List (Option ℤ)) → List (Option ℕ) → List (List (Option ℤ)) → Type 0
PicksCells from [] [] = Unit {0}
PicksCells from [] (cells ∷ rest) = ⊥
PicksCells from (pick ∷ picks) [] = ⊥
PicksCells from (pick ∷ picks) (cells ∷ rest) = PickedCells from cells pick × PicksCells from picks rest
