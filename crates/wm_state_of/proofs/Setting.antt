-- Arrays that are set one after another, and the state that the lines of a head bound.
use Rattle.std.proofs.Common.{◌≡◌, ◌≢◌, ◌∙◌, ◌⊎◌, inl, inr, refl, sym, subst, true, false, cond, nat_eq, nat_lt, ℕ, zero, suc, ◌+◌, ◌<◌, ◌≤◌, ℤ, List, [], ◌∷◌, length, Option, Some, None, arith}
use Rattle.std.specs.Prelude.{slice_index_or}
use Rattle.wm_arrays.specs.declared.summary.Summary.{Summary}
use Rattle.wm_domain.specs.declared.shape.Shape.{Shape}
use Rattle.wm_domain.specs.Points.{Point, AllowsCell}
use Rattle.wm_domain.specs.Changes.{ArraySet, IsUnset}
use Rattle.wm_domain.specs.States.{InShape, Keeps, array_count}
use Rattle.wm_cert_text.specs.declared.told.Cells.{Cells}
use Rattle.wm_cert_text.specs.declared.told.Cells.TheVariants.{Empty}
use Rattle.wm_cert_text.specs.declared.told.State.{State}
use Rattle.wm_state_of.specs.Cuts.{Cut}
use Rattle.wm_state_of.specs.Meeting.{CellMet, ArraysMet, BoundsMet, PairsMet, IsStateOf}
use Rattle.wm_state_of.specs.Setting.{CellSet, ArraysSet}

-- ---- one array

pub cell_of_set : (Has : Point → Type 0) (a : ℕ) (s : Summary) (held : Cells) (p : Point) → ((c : Option ℤ) → AllowsCell s c → CellMet held c) → ArraySet Has a s p → CellSet Has a held p
cell_of_set Has a s held p to h = record { was = h.was; point = h.point; others = h.others; met = to (p.cells a) h.cell }

pub set_of_cell : (Has : Point → Type 0) (a : ℕ) (s : Summary) (held : Cells) (p : Point) → ((c : Option ℤ) → CellMet held c → AllowsCell s c) → CellSet Has a held p → ArraySet Has a s p
set_of_cell Has a s held p from h = record { was = h.was; point = h.point; others = h.others; cell = from (p.cells a) h.met }

-- ---- one array more

pub none_set : (Has : Point → Type 0) (arrays : List Cells) (p : Point) → Has p → ArraysSet Has 0 arrays p
none_set Has arrays p h = record { was = p; point = h; numbers = λ v. refl; rest = λ a k. refl; met = λ a k. absurd (omega (arith, k)) }

equal_or_not : (b a : ℕ) → (b ≡ a) ⊎ (b ≢ a)
equal_or_not b a = grind arith

less_or : (a n : ℕ) → a < n + 1 → (a < n) ⊎ (a ≡ n)
less_or a n h = grind arith

below_apart : (a n : ℕ) → a < n → a ≢ n
below_apart a n h = omega arith

above_apart : (a n : ℕ) → n + 1 ≤ a → a ≢ n
above_apart a n h = omega arith

from_one_less : (a n : ℕ) → n + 1 ≤ a → n ≤ a
from_one_less a n h = omega arith

to_one_more : (a n : ℕ) → a < n → a < n + 1
to_one_more a n h = omega arith

itself_below : (n : ℕ) → n < n + 1
itself_below n = omega arith

past_if_other : (a n : ℕ) → n ≤ a → a ≢ n → n + 1 ≤ a
past_if_other a n h k = omega (arith, h, k)

pub more_set : (Has Mid : Point → Type 0) (n : ℕ) (arrays : List Cells) (p : Point) → ((q : Point) → Mid q → ArraysSet Has n arrays q) → CellSet Mid n (slice_index_or arrays n Empty) p → ArraysSet Has (n + 1) arrays p
more_set Has Mid n arrays p made h =
    let before = made h.was h.point in
    record {
      was = before.was;
      point = before.point;
      numbers = λ v. h.others.numbers v ∙ before.numbers v;
      rest = λ a k. h.others.cells a (above_apart a n k) ∙ before.rest a (from_one_less a n k);
      met = λ a k. elim (less_or a n k) [
        | inl l ↦ subst (CellMet (slice_index_or arrays a Empty)) (sym (h.others.cells a (below_apart a n l))) (before.met a l)
        | inr e ↦ subst (λ (b : ℕ). CellMet (slice_index_or arrays b Empty) (p.cells b)) (sym e) h.met
      ];
    }

-- ---- points with another cell

moved : (ℕ → Option ℤ) → ℕ → Option ℤ → ℕ → Option ℤ
moved x a z b = cond (nat_eq b a) z (x b)

moved-here : (x : ℕ → Option ℤ) (a : ℕ) (z : Option ℤ) → moved x a z a ≡ z
unfolding moved
moved-here x a z = let e : nat_eq a a ≡ true = grind arith in rw e refl

moved-there : (x : ℕ → Option ℤ) (a : ℕ) (z : Option ℤ) (b : ℕ) → b ≢ a → moved x a z b ≡ x b
unfolding moved
moved-there x a z b h = let e : nat_eq b a ≡ false = grind arith in rw e refl

abbrev with_cell : Point → ℕ → Option ℤ → Point
with_cell p a z = record p { cells = moved p.cells a z }

-- p with the cell that another point has at the array
back : (shape : Shape) (n : ℕ) (p was : Point) → InShape shape p → InShape shape was → InShape shape (with_cell p n (was.cells n))
back shape n p was i j = record {
  numbers = i.numbers;
  set_cells = λ a z h e. elim (equal_or_not a n) [
    | inl same ↦ j.set_cells a z h (subst (λ (x : ℕ). was.cells x ≡ Some z) (sym same) (sym (moved-here p.cells n (was.cells n)) ∙ subst (λ (x : ℕ). moved p.cells n (was.cells n) x ≡ Some z) same e))
    | inr other ↦ i.set_cells a z h (sym (moved-there p.cells n (was.cells n) a other) ∙ e)
  ];
}

pub one_less : (Has Mid : Point → Type 0) (shape : Shape) (n : ℕ) (arrays : List Cells) (p : Point) → ((q : Point) → Has q → InShape shape q) → ((q : Point) → InShape shape q → ArraysSet Has n arrays q → Mid q) → InShape shape p → ArraysSet Has (n + 1) arrays p → CellSet Mid n (slice_index_or arrays n Empty) p
one_less Has Mid shape n arrays p inside kept i h =
    let q : Point = with_cell p n (h.was.cells n) in
    record {
      was = q;
      point = kept q (back shape n p h.was i (inside h.was h.point)) (record {
        was = h.was;
        point = h.point;
        numbers = h.numbers;
        rest = λ a k. elim (equal_or_not a n) [
          | inl same ↦ subst (λ (x : ℕ). moved p.cells n (h.was.cells n) x ≡ h.was.cells x) (sym same) (moved-here p.cells n (h.was.cells n))
          | inr other ↦ moved-there p.cells n (h.was.cells n) a other ∙ h.rest a (past_if_other a n k other)
        ];
        met = λ a k. subst (CellMet (slice_index_or arrays a Empty)) (sym (moved-there p.cells n (h.was.cells n) a (below_apart a n k))) (h.met a (to_one_more a n k));
      });
      others = record { numbers = λ v. refl; cells = λ b other. sym (moved-there p.cells n (h.was.cells n) b other) };
      met = h.met n (itself_below n);
    }

-- ---- all lines

each_met : (arrays : List Cells) (b : ℕ) (p : Point) → ArraysMet b arrays p → (a : ℕ) → a < length arrays → CellMet (slice_index_or arrays a Empty) (p.cells (b + a))
each_met [] b p h a k = absurd (omega (arith, k))
each_met (held ∷ rest) b p h zero k = subst (λ (x : ℕ). CellMet held (p.cells x)) (omega arith) h.0
each_met (held ∷ rest) b p h (suc a) k = subst (λ (x : ℕ). CellMet (slice_index_or rest a Empty) (p.cells x)) (omega arith) (each_met rest (b + 1) p h.1 a (omega (arith, k)))

all_met : (arrays : List Cells) (b : ℕ) (p : Point) → ((a : ℕ) → a < length arrays → CellMet (slice_index_or arrays a Empty) (p.cells (b + a))) → ArraysMet b arrays p
all_met [] b p h = tt
all_met (held ∷ rest) b p h = (
  subst (λ (x : ℕ). CellMet held (p.cells x)) (omega arith) (h zero (omega arith)),
  all_met rest (b + 1) p (λ a k. subst (λ (x : ℕ). CellMet (slice_index_or rest a Empty) (p.cells x)) (omega arith) (h (suc a) (omega (arith, k)))),
)

-- the cells of a point without those of the first arrays
bare_cells : ℕ → (ℕ → Option ℤ) → ℕ → Option ℤ
bare_cells n x a = cond (nat_lt a n) None (x a)

bare-here : (n : ℕ) (x : ℕ → Option ℤ) (a : ℕ) → a < n → bare_cells n x a ≡ None
unfolding bare_cells
bare-here n x a h = let e : nat_lt a n ≡ true = grind arith in rw e refl

bare-there : (n : ℕ) (x : ℕ → Option ℤ) (a : ℕ) → n ≤ a → bare_cells n x a ≡ x a
unfolding bare_cells
bare-there n x a h = let e : nat_lt a n ≡ false = grind arith in rw e refl

abbrev bare : ℕ → Point → Point
bare n p = record p { cells = bare_cells n p.cells }

none_some : (z : ℤ) → None ≡ Some z → ⊥
none_some z e = grind (arith, e)

zero_plus : (a : ℕ) → 0 + a ≡ a
zero_plus a = omega arith

bare_inside : (shape : Shape) (p : Point) → InShape shape p → InShape shape (bare (array_count shape) p)
bare_inside shape p i = record {
  numbers = i.numbers;
  set_cells = λ a z h e. absurd (none_some z (sym (bare-here (array_count shape) p.cells a h) ∙ e));
}

module _ (Full Set Cutted Left : Point → Type 0) (shape : Shape) (told : State) where
  -- the arrays are set, then the bounds are kept, then the pairs
  pub is_state : length told.arrays ≡ array_count shape
      → ((p : Point) → InShape shape p → IsUnset shape p → Full p)
      → ((p : Point) → Set p → ArraysSet Full (length told.arrays) told.arrays p)
      → ((p : Point) → InShape shape p → ArraysSet Full (length told.arrays) told.arrays p → Set p)
      → Cut Set Cutted (BoundsMet 0 told.bounds) → Cut Cutted Left (PairsMet told.pairs)
      → ((p : Point) → Left p → InShape shape p)
      → IsStateOf shape (Some told) Left
  is_state count full made kept bounds pairs inside = (
    λ p h.
        let cutted : Cutted p = pairs.fewer p h in
        let set : Set p = bounds.fewer p cutted in
        record {
          inside = inside p h;
          bounds = bounds.meets p cutted;
          pairs = pairs.meets p h;
          arrays = all_met told.arrays 0 p (λ a k. subst (λ (x : ℕ). CellMet (slice_index_or told.arrays a Empty) (p.cells x)) (sym (zero_plus a)) ((made p set).met a k));
        },
    λ p m.
        let n = array_count shape in
        let set : Set p = kept p m.inside (record {
          was = bare n p;
          point = full (bare n p) (bare_inside shape p m.inside) (λ a k. bare-here n p.cells a k);
          numbers = λ v. refl;
          rest = λ a k. sym (bare-there n p.cells a (omega (arith, k, count)));
          met = λ a k. subst (λ (x : ℕ). CellMet (slice_index_or told.arrays a Empty) (p.cells x)) (zero_plus a) (each_met told.arrays 0 p m.arrays a k);
        }) in
        pairs.kept p (bounds.kept p set m.bounds) m.pairs,
  )

-- what a state holds in which no cell is set
pub unset_kept : {S : Type 0} (holds : S → Point → Type 0) (shape_of : S → Shape) (s : S) (shape : Shape) → shape_of s ≡ shape → Keeps holds shape_of s (IsUnset shape) → (p : Point) → InShape shape p → IsUnset shape p → holds s p
unset_kept holds shape_of s shape e k p i u = k.kept p (subst (λ (t : Shape). InShape t p) (sym e) i) u
