-- Points that stay where they are, and their numbers of 32 bits.
use Rattle.std.proofs.Common.{◌≡◌, ◌≢◌, ◌⊎◌, inl, inr, Bool, true, false, cond, nat_eq, ◌∙◌, ℕ, ◌+◌, ◌-◌, ◌<◌, ◌≤◌, ◌^◌, ℤ, pos, negsuc, ◌-ℤ◌, ◌≤ℤ◌, unsigned_abs, List, ◌++◌, length, Option, Some, None, refl, sym, subst, arith}
use Rattle.std.specs.Prelude.{◌↔◌, All, MatchOption}
use Rattle.std.proofs.lemmas.Int.{ints}
use Rattle.std.proofs.lemmas.List.Elements.{All-get_or}
use Rattle.std.proofs.lemmas.List.{get_or_append_left, get_or-append_right, length-append}
use Rattle.wm_numbers.specs.Within.{Within, IsWord32}
use Rattle.wm_numbers.proofs.Order.{le_trans, le_refl}
use Rattle.wm_interval.specs.declared.Interval.{Interval}
use Rattle.wm_interval.specs.Holds.{Holds, InBoth, IsHullOf}
use Rattle.wm_domain.specs.declared.shape.Shape.{Shape}
use Rattle.wm_arrays.specs.declared.summary.Summary.{Summary}
use Rattle.wm_domain.specs.Points.{Point, Alike, AllowsCell, range_at, nought, IsNarrow}
use Rattle.wm_domain.specs.Changes.{ArraySet}
use Rattle.wm_domain.specs.States.{IsShape, InShape, IsSized, count_of}
use Rattle.wm_filters.specs.Stays.{Stays, SameBeside}
use Rattle.wm_filters.specs.Words.{IsWords, AreDifferences}

-- ---- points with another cell

pub moved : (ℕ → Option ℤ) → ℕ → Option ℤ → ℕ → Option ℤ
moved x a z b = cond (nat_eq b a) z (x b)

moved-here : (x : ℕ → Option ℤ) (a : ℕ) (z : Option ℤ) → moved x a z a ≡ z
unfolding moved
moved-here x a z = let e : nat_eq a a ≡ true = grind arith in rw e refl

moved-there : (x : ℕ → Option ℤ) (a : ℕ) (z : Option ℤ) (b : ℕ) → b ≢ a → moved x a z b ≡ x b
unfolding moved
moved-there x a z b h = let e : nat_eq b a ≡ false = grind arith in rw e refl

-- p with another cell of array a
abbrev pub with_cell : Point → ℕ → Option ℤ → Point
with_cell p a z = record p { cells = moved p.cells a z }

pub with_cell-here : (p : Point) (a : ℕ) (z : Option ℤ) → (with_cell p a z).cells a ≡ z
with_cell-here p a z = moved-here p.cells a z

pub with_cell-there : (p : Point) (a : ℕ) (z : Option ℤ) (b : ℕ) → b ≢ a → (with_cell p a z).cells b ≡ p.cells b
with_cell-there p a z b h = moved-there p.cells a z b h

pub equal_or_not : (b a : ℕ) → (b ≡ a) ⊎ (b ≢ a)
equal_or_not b a = grind arith

pub cell_inside : (shape : Shape) (was p : Point) (a : ℕ) → InShape shape was → InShape shape p → InShape shape (with_cell was a (p.cells a))
cell_inside shape was p a i j = record {
  numbers = i.numbers;
  set_cells = λ b z h e. elim (equal_or_not b a) [
    | inl same ↦ j.set_cells b z h (subst (λ (x : ℕ). p.cells x ≡ Some z) (sym same) (sym (with_cell-here was a (p.cells a)) ∙ subst (λ (x : ℕ). (with_cell was a (p.cells a)).cells x ≡ Some z) same e))
    | inr other ↦ i.set_cells b z h (sym (with_cell-there was a (p.cells a) b other) ∙ e)
  ];
}

pub cell_set : (Has : Point → Type 0) (was p : Point) (a : ℕ) (s : Summary) → Has was → AllowsCell s (p.cells a) → ArraySet Has a s (with_cell was a (p.cells a))
cell_set Has was p a s h k = record {
  was = was;
  point = h;
  others = record { numbers = λ w. refl; cells = λ b other. with_cell-there was a (p.cells a) b other };
  cell = subst (AllowsCell s) (sym (with_cell-here was a (p.cells a))) k;
}

pub cell_alike : (variables arrays a : ℕ) (was p : Point) → SameBeside variables arrays a was p → Alike variables arrays (with_cell was a (p.cells a)) p
cell_alike variables arrays a was p s = record {
  numbers = s.numbers;
  cells = λ b h. elim (equal_or_not b a) [
    | inl same ↦ subst (λ (x : ℕ). p.cells x ≡ (with_cell was a (p.cells a)).cells x) (sym same) (sym (with_cell-here was a (p.cells a)))
    | inr other ↦ s.cells b h other ∙ sym (with_cell-there was a (p.cells a) b other)
  ];
}

-- ---- numbers of 32 bits

narrow_at : (xs ys : List Interval) (v : ℕ) → All IsNarrow xs → All IsNarrow ys → v < length (xs ++ ys) → IsNarrow (range_at (xs ++ ys) v)
narrow_at xs ys v h k hv = elim (side v (length xs)) [
  | inl l ↦ subst IsNarrow (sym (get_or_append_left xs ys nought v l)) (All-get_or IsNarrow xs v nought l h)
  | inr g ↦ subst IsNarrow (sym (get_or-append_right xs ys (length xs) v nought refl g)) (All-get_or IsNarrow ys (v - length xs) nought (past (length xs) (length ys) v g (subst (λ (n : ℕ). v < n) (length-append xs ys) hv)) k)
]
  where
    side : (v n : ℕ) → (v < n) ⊎ (n ≤ v)
    side v n = grind arith

    past : (n m v : ℕ) → n ≤ v → v < n + m → v - n < m
    past n m v h k = omega arith

-- each variable of a point in the full ranges has 32 bits
pub word_at : (shape : Shape) (p : Point) (v : ℕ) → IsShape shape → InShape shape p → v < count_of shape → IsWord32 (p.values v)
word_at shape p v s i hv =
    let n = narrow_at shape.group shape.singles v s.group s.singles hv in
    let h = i.numbers v hv in
    record { above = le_trans n.low_fits.above h.above; below = le_trans h.below n.high_fits.below }

word_in : (all : Interval) (z : ℤ) → all.low ≡ negsuc 2147483647 → all.high ≡ pos 2147483647 → IsWord32 z → Holds all z
word_in all z el eh h = record { above = omega (arith, ints, el, h.above); below = omega (arith, ints, eh, h.below) }

in_word : (all : Interval) (z : ℤ) → all.low ≡ negsuc 2147483647 → all.high ≡ pos 2147483647 → Holds all z → IsWord32 z
in_word all z el eh h = record { above = omega (arith, ints, el, h.above); below = omega (arith, ints, eh, h.below) }

small_size : (z : ℤ) → IsWord32 z → unsigned_abs z < 2 ^ 50
small_size z h = omega (arith, ints, h.above, h.below)

pub words_of : (r all : Interval) (o : Option Interval) → all.low ≡ negsuc 2147483647 → all.high ≡ pos 2147483647 → MatchOption o ((z : ℤ) → InBoth r all z → ⊥) (λ w. IsHullOf (InBoth r all) w) → MatchOption o (Unit {0}) (λ w. (z : ℤ) → Holds w z ↔ InBoth r all z) → IsWords r o
words_of r all None el eh none each = λ z h w. none z (h, word_in all z el eh w)
words_of r all (Some x) el eh some each = (
  record {
    low_size = small_size x.low (in_word all x.low el eh ((each x.low).0 (record { above = le_refl x.low; below = x.ordered })).1);
    high_size = small_size x.high (in_word all x.high el eh ((each x.high).0 (record { above = x.ordered; below = le_refl x.high })).1);
  },
  λ z h w. (each z).1 (h, word_in all z el eh w),
)

-- ---- one change after another

pub stays_same : {S : Type 0} (Holds_of : S → Point → Type 0) (shape : Shape) (old : S) (Cond : Point → Type 0) → Stays Holds_of shape old old Cond
stays_same Holds_of shape old Cond = record { kept = λ p i h k. h }

pub stays_then : {S : Type 0} (Holds_of : S → Point → Type 0) (shape other : Shape) (old mid new : S) (Cond Next : Point → Type 0) → other ≡ shape → ((p : Point) → InShape shape p → Cond p → Next p)
    → Stays Holds_of shape old mid Cond → Stays Holds_of other mid new Next → Stays Holds_of shape old new Cond
stays_then Holds_of shape other old mid new Cond Next e to a b = record {
  kept = λ p i h k. b.kept p (subst (λ (x : Shape). InShape x p) (sym e) i) (a.kept p i h k) (to p i k);
}

pub stays_more : {S : Type 0} (Holds_of : S → Point → Type 0) (shape : Shape) (old new : S) (Cond Next : Point → Type 0) → ((p : Point) → InShape shape p → Cond p → Next p)
    → Stays Holds_of shape old new Next → Stays Holds_of shape old new Cond
stays_more Holds_of shape old new Cond Next to a = record { kept = λ p i h k. a.kept p i h (to p i k) }

-- ---- differences

difference_in : (all : Interval) (z w : ℤ) → all.low ≡ negsuc 4294967294 → all.high ≡ pos 4294967295 → IsWord32 z → IsWord32 w → Holds all (z -ℤ w)
difference_in all z w el eh h k = record {
  above = omega (arith, ints, el, h.above, h.below, k.above, k.below);
  below = omega (arith, ints, eh, h.above, h.below, k.above, k.below);
}

small_in : (all : Interval) (z : ℤ) → all.low ≡ negsuc 4294967294 → all.high ≡ pos 4294967295 → Holds all z → unsigned_abs z < 2 ^ 50
small_in all z el eh h = omega (arith, ints, el, eh, h.above, h.below)

pub differences_of : (d all : Interval) (o : Option Interval) → all.low ≡ negsuc 4294967294 → all.high ≡ pos 4294967295 → MatchOption o ((z : ℤ) → InBoth d all z → ⊥) (λ w. IsHullOf (InBoth d all) w) → MatchOption o (Unit {0}) (λ w. (z : ℤ) → Holds w z ↔ InBoth d all z) → AreDifferences d o
differences_of d all None el eh none each = λ z w hz hw h. none (z -ℤ w) (h, difference_in all z w el eh hz hw)
differences_of d all (Some x) el eh some each = (
  record {
    low_size = small_in all x.low el eh ((each x.low).0 (record { above = le_refl x.low; below = x.ordered })).1;
    high_size = small_in all x.high el eh ((each x.high).0 (record { above = x.ordered; below = le_refl x.high })).1;
  },
  λ z w hz hw h. (each (z -ℤ w)).1 (h, difference_in all z w el eh hz hw),
)
