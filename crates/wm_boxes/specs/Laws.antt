-- The laws of boxes.
use Rattle.std.proofs.Common.{◌≡◌, ℕ, ◌<◌, ℤ, ◌≤ℤ◌, neg_ℤ, List, length, false, true, sym, subst, arith, Some, None, Option}
use Rattle.std.proofs.lemmas.Int.{ints}
use Rattle.std.proofs.lemmas.List.{take-append-drop}
use Rattle.wm_numbers.proofs.Order.{le_trans}
use Rattle.wm_interval.specs.declared.Interval.{Interval}
use Rattle.wm_interval.specs.Holds.{Holds}
use Rattle.wm_arrays.specs.declared.summary.Summary.{Summary}
use Rattle.wm_arrays.specs.declared.summary.Summary.TheVariants.{Empty, Range}
use Rattle.wm_domain.specs.Points.{Point, range_at, IsInside, Alike, AllowsCell}
use Rattle.wm_domain.specs.declared.form.Form.{Form}
use Rattle.wm_domain.specs.Forms.{IsForm}
use Rattle.wm_domain.specs.Changes.{ArePicks}
use Rattle.wm_domain.specs.States.{variables_of, count_of, array_count, InShape, IsTold, IsCellTold}
use Rattle.wm_spans.specs.Spanned.{Spanned, cell_at, In}
use Rattle.wm_spans.proofs.Listed.{in_full}
use Rattle.wm_boxes.specs.Shapes.{shape_at}

pub all_variables : (g : ℕ) (s : Spanned) → variables_of (shape_at g s) ≡ s.full
all_variables g s = take-append-drop g s.full

pub to_shape : (g : ℕ) (s : Spanned) (p : Point) → IsInside s.full s.array_full p → InShape (shape_at g s) p
to_shape g s p i = subst (λ (xs : List Interval). IsInside xs s.array_full p) (sym (all_variables g s)) i

pub of_shape : (g : ℕ) (s : Spanned) (p : Point) → InShape (shape_at g s) p → IsInside s.full s.array_full p
of_shape g s p i = subst (λ (xs : List Interval). IsInside xs s.array_full p) (all_variables g s) i

pub to_count : (g : ℕ) (s : Spanned) (v : ℕ) → v < length s.full → v < count_of (shape_at g s)
to_count g s v h = subst (λ (xs : List Interval). v < length xs) (sym (all_variables g s)) h

pub of_count : (g : ℕ) (s : Spanned) (v : ℕ) → v < count_of (shape_at g s) → v < length s.full
of_count g s v h = subst (λ (xs : List Interval). v < length xs) (all_variables g s) h

pub boxes_inside : (g : ℕ) (s : Spanned) (p : Point) → In s p → InShape (shape_at g s) p
boxes_inside g s p h = to_shape g s p (in_full s p h)

pub boxes_alike : (g : ℕ) (s : Spanned) (p q : Point) → Alike (count_of (shape_at g s)) (array_count (shape_at g s)) p q → In s p → In s q
boxes_alike g s p q a h = record {
  some = h.some;
  kept = h.kept;
  numbers = λ v hv. subst (Holds (range_at s.ranges v)) (sym (a.numbers v (to_count g s v hv))) (h.numbers v hv);
  cells = λ b hb. subst (AllowsCell (cell_at s.cells b)) (sym (a.cells b hb)) (h.cells b hb);
}

-- ---- what is told

above_from : (l x z : ℤ) → l ≤ℤ x → neg_ℤ z ≤ℤ neg_ℤ x → l ≤ℤ z
above_from l x z h k = omega (arith, ints)

allows_between : (s : Summary) (c d : Option ℤ) (l h z : ℤ) → c ≡ Some l → d ≡ Some h → AllowsCell s c → AllowsCell s d → l ≤ℤ z → z ≤ℤ h → AllowsCell s (Some z)
allows_between s c d l h z e f x y k j = between s (subst (AllowsCell s) e x) (subst (AllowsCell s) f y)
  where
    between : (s : Summary) → AllowsCell s (Some l) → AllowsCell s (Some h) → AllowsCell s (Some z)
    between Empty x y = absurd x
    between (Range r) x y = record { above = le_trans x.above k; below = le_trans j y.below }

told_cell : (s : Spanned) (a : ℕ) (c : Option ℤ) → a < length s.array_full → IsCellTold (In s) a c → AllowsCell (cell_at s.cells a) c
told_cell s a None ha t = tt
told_cell s a (Some z) ha t = allows_between (cell_at s.cells a) (t.x.cells a) (t.y.cells a) t.low t.high z t.x_cell t.y_cell (t.x_is.cells a ha) (t.y_is.cells a ha) t.above t.below

pub boxes_told : (g : ℕ) (s : Spanned) (p : Point) → IsTold false (shape_at g s) (In s) p → In s p
boxes_told g s p t = record {
  some = t.some_is.some;
  kept = t.some_is.kept;
  numbers = λ v hv.
      let c = to_count g s v hv in
      let low = t.each (record { variable = v; negative = true }) c in
      let high = t.each (record { variable = v; negative = false }) c in
      record { above = above_from (range_at s.ranges v).low (low.x.values v) (p.values v) (low.is.numbers v hv).above low.reaches; below = le_trans high.reaches (high.is.numbers v hv).below };
  cells = λ a ha. told_cell s a (p.cells a) ha (t.cells a ha);
}

pub of_form : (g : ℕ) (s : Spanned) (f : Form) → IsForm (count_of (shape_at g s)) f → IsForm (length s.full) f
of_form g s f h = subst (λ (xs : List Interval). IsForm (length xs) f) (all_variables g s) h

pub of_picks : (g : ℕ) (s : Spanned) (picks : List (Option ℕ)) → ArePicks (count_of (shape_at g s)) picks → ArePicks (length s.full) picks
of_picks g s picks h = subst (λ (xs : List Interval). ArePicks (length xs) picks) (all_variables g s) h
