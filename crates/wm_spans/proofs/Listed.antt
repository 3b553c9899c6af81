-- A list of ranges or summaries after one of them was replaced, and the points of what was made of it.
use Rattle.std.proofs.Common.{◌≡◌, ◌≢◌, ◌⊎◌, inl, inr, ℕ, ◌<◌, ℤ, ◌≤ℤ◌, List, length, set, Bool, false, true, sym, ◌∙◌, ap, subst, refl, arith, get_or-set_same, get_or-set_other, Some, None, Option}
use Rattle.std.proofs.lemmas.List.{length-set}
use Rattle.std.proofs.lemmas.Int.{ints}
use Rattle.std.proofs.lemmas.Bool.{cases_eq}
use Rattle.wm_interval.specs.declared.Interval.{Interval}
use Rattle.wm_interval.specs.Holds.{Holds}
use Rattle.wm_arrays.specs.declared.summary.Summary.{Summary}
use Rattle.wm_arrays.specs.declared.summary.Summary.TheVariants.{Empty, Range}
use Rattle.wm_domain.specs.Points.{Point, range_at, nought, IsInside, AllowsCell}
use Rattle.wm_spans.specs.Spanned.{Spanned, cell_at, Lies, CellsLie, IsKept, Kept, In}

pub range_same : (xs : List Interval) (v : ℕ) (m : Interval) → v < length xs → range_at (set xs v m) v ≡ m
range_same xs v m h = get_or-set_same xs v m nought h

pub range_other : (xs : List Interval) (v u : ℕ) (m : Interval) → u ≢ v → range_at (set xs v m) u ≡ range_at xs u
range_other xs v u m h = get_or-set_other xs v u m nought h

pub cell_same : (xs : List Summary) (a : ℕ) (m : Summary) → a < length xs → cell_at (set xs a m) a ≡ m
cell_same xs a m h = get_or-set_same xs a m Empty h

pub cell_other : (xs : List Summary) (a b : ℕ) (m : Summary) → b ≢ a → cell_at (set xs a m) b ≡ cell_at xs b
cell_other xs a b m h = get_or-set_other xs a b m Empty h

-- what holds at each place of a list holds at each place after one was replaced by what it holds of
pub each_range : (P : ℕ → Interval → Type 0) (xs : List Interval) (v n : ℕ) (m : Interval) → v < length xs → P v m
    → ((u : ℕ) → u < n → u ≢ v → P u (range_at xs u)) → (u : ℕ) → u < n → P u (range_at (set xs v m) u)
each_range P xs v n m h k each u hu = elim (cases_eq u v) [
  | inl e ↦ subst (λ (w : ℕ). P w (range_at (set xs v m) w)) (sym e) (subst (P v) (sym (range_same xs v m h)) k)
  | inr ne ↦ subst (P u) (sym (range_other xs v u m ne)) (each u hu ne)
]

pub each_cell : (P : ℕ → Summary → Type 0) (xs : List Summary) (a n : ℕ) (m : Summary) → a < length xs → P a m
    → ((b : ℕ) → b < n → b ≢ a → P b (cell_at xs b)) → (b : ℕ) → b < n → P b (cell_at (set xs a m) b)
each_cell P xs a n m h k each b hb = elim (cases_eq b a) [
  | inl e ↦ subst (λ (c : ℕ). P c (cell_at (set xs a m) c)) (sym e) (subst (P a) (sym (cell_same xs a m h)) k)
  | inr ne ↦ subst (P b) (sym (cell_other xs a b m ne)) (each b hb ne)
]

pub kept_put : (full array_full ranges : List Interval) (cells : List Summary) (v : ℕ) (m : Interval) → IsKept full array_full ranges cells
    → v < length full → Lies (range_at full v) m → IsKept full array_full (set ranges v m) cells
kept_put full array_full ranges cells v m k h l = record {
  ranges_long = length-set ranges v m ∙ k.ranges_long;
  cells_long = k.cells_long;
  narrow = k.narrow;
  ranges_lie = each_range (λ u r. Lies (range_at full u) r) ranges v (length full) m (subst (λ (n : ℕ). v < n) (sym k.ranges_long) h) l (λ u hu ne. k.ranges_lie u hu);
  cells_lie = k.cells_lie;
}

pub kept_put_cells : (full array_full ranges : List Interval) (cells : List Summary) (a : ℕ) (m : Summary) → IsKept full array_full ranges cells
    → a < length array_full → CellsLie (range_at array_full a) m → IsKept full array_full ranges (set cells a m)
kept_put_cells full array_full ranges cells a m k h l = record {
  ranges_long = k.ranges_long;
  cells_long = length-set cells a m ∙ k.cells_long;
  narrow = k.narrow;
  ranges_lie = k.ranges_lie;
  cells_lie = each_cell (λ b s. CellsLie (range_at array_full b) s) cells a (length array_full) m (subst (λ (n : ℕ). a < n) (sym k.cells_long) h) l (λ b hb ne. k.cells_lie b hb);
}

le_le : {x y z : ℤ} → x ≤ℤ y → y ≤ℤ z → x ≤ℤ z
le_le h k = omega (arith, ints)

pub lies_holds : (full r : Interval) (z : ℤ) → Lies full r → Holds r z → Holds full z
lies_holds full r z l h = record { above = le_le l.above h.above; below = le_le h.below l.below }

pub cell_lies_holds : (full : Interval) (s : Summary) (z : ℤ) → CellsLie full s → AllowsCell s (Some z) → Holds full z
cell_lies_holds full Empty z l h = absurd h
cell_lies_holds full (Range r) z l h = lies_holds full r z l h

-- a point lies in the full ranges
pub in_full : (s : Spanned) (p : Point) → In s p → IsInside s.full s.array_full p
in_full s p h = record {
  numbers = λ v hv. lies_holds (range_at s.full v) (range_at s.ranges v) (p.values v) (h.kept.ranges_lie v hv) (h.numbers v hv);
  set_cells = λ a z ha e. cell_lies_holds (range_at s.array_full a) (cell_at s.cells a) z (h.kept.cells_lie a ha) (subst (AllowsCell (cell_at s.cells a)) e (h.cells a ha));
}

pub not_both : {P : Type 0} → true ≡ false → P
not_both e = cc

-- the number that the range at a replaced place holds
pub number_here : (xs : List Interval) (v : ℕ) (m : Interval) (z : ℤ) → v < length xs → Holds (range_at (set xs v m) v) z → Holds m z
number_here xs v m z h k = subst (λ (r : Interval). Holds r z) (range_same xs v m h) k

pub number_there : (xs : List Interval) (v u : ℕ) (m : Interval) (z : ℤ) → u ≢ v → Holds (range_at (set xs v m) u) z → Holds (range_at xs u) z
number_there xs v u m z h k = subst (λ (r : Interval). Holds r z) (range_other xs v u m h) k

pub cell_here : (xs : List Summary) (a : ℕ) (m : Summary) (c : Option ℤ) → a < length xs → AllowsCell (cell_at (set xs a m) a) c → AllowsCell m c
cell_here xs a m c h k = subst (λ (s : Summary). AllowsCell s c) (cell_same xs a m h) k

pub cell_there : (xs : List Summary) (a b : ℕ) (m : Summary) (c : Option ℤ) → b ≢ a → AllowsCell (cell_at (set xs a m) b) c → AllowsCell (cell_at xs b) c
cell_there xs a b m c h k = subst (λ (s : Summary). AllowsCell s c) (cell_other xs a b m h) k
