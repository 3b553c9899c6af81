-- Numbers of at most 2^42 in size are read back as they are, and their sums fit.
use Rattle.std.proofs.Common.{◌≡◌, ℕ, ℤ, pos, negsuc, ◌+ℤ◌, ◌-ℤ◌, neg_ℤ, ◌*ℤ◌, ◌^◌, unsigned_abs, arith, rules, to_z, of_z, w64, ◌<◌, zero, suc, refl, get_or, length, map, sym, subst, inl, inr}
use Rattle.std.specs.List.{range_with_len}
use Rattle.std.proofs.lemmas.Bool.{cases_lt}
use Rattle.std.proofs.lemmas.List.{get_or_append_left, get_or-append_right, get_or_past}
use Rattle.std.proofs.lemmas.List.FromFn.{length-map-range_with_len, get_or-map-range_with_len}
use Rattle.wm_octagon.specs.Layout.{row_len, table}
use Rattle.wm_octagon.specs.Closing.{half_of}
use Rattle.wm_octagon.specs.Medium.{IsMedium, IsRound}
use Rattle.std.specs.Int.{int_min}
use Rattle.wm_numbers.specs.Within.{Within}
use mir.Val.{SFits}
use lib.Signed.{lt_z, ◌<ℤ◌, ◌≤ℤ◌}
use Rattle.std.specs.Prelude.{int_le, true, false}
use Rattle.wm_octagon.proofs.Tables.{half_le, le_half}
use Rattle.std.proofs.lemmas.Int.{ints, clamps}
use Rattle.wm_octagon.specs.HalfTable.{IsSmall}

pub small_read : (z : ℤ) → IsSmall z → to_z w64 (of_z w64 z) ≡ z
small_read z s = omega (arith, ints)

pub small-zero : IsSmall (pos 0)
small-zero = record { above = omega (arith, ints); below = omega (arith, ints) }

-- a row and a table of small numbers
small-row : (f : ℕ → ℤ) (n : ℕ) → ((l : ℕ) → l < n → IsSmall (f l)) → (i : ℕ) → IsSmall (get_or (map f (range_with_len 0 n)) i (pos 0))
small-row f n s i = elim (cases_lt i n) [
  | inl here ↦ subst IsSmall (sym (get_or-map-range_with_len f 0 n i i (pos 0) here (omega arith))) (s i here)
  | inr past ↦ (let e = length-map-range_with_len f 0 n in subst IsSmall (sym (get_or_past (map f (range_with_len 0 n)) i (pos 0) (omega arith))) small-zero)
]

pub small-table : (n : ℕ) (f : ℕ → ℕ → ℤ) → ((k l : ℕ) → k < n → l < row_len k → IsSmall (f k l)) → (i : ℕ) → IsSmall (get_or (table n f) i (pos 0))
small-table zero f s i = small-zero
small-table (suc n) f s i = elim (cases_lt i (length (table n f))) [
  | inl before ↦ subst IsSmall (sym (get_or_append_left (table n f) (map (f n) (range_with_len 0 (row_len n))) (pos 0) i before))
      (small-table n f (λ k l h j. s k l (omega arith) j) i)
  | inr after ↦ subst IsSmall (sym (get_or-append_right (table n f) (map (f n) (range_with_len 0 (row_len n))) (length (table n f)) i (pos 0) refl after))
      (small-row (f n) (row_len n) (λ l j. s n l (omega arith) j) _)
]

-- half of a small number is small
pub half_small : (z : ℤ) → IsSmall z → IsSmall (half_of z)
half_small z s = let a = half_le z in let b = le_half z in record { above = omega (arith, ints); below = omega (arith, ints) }

pub medium-zero : IsMedium (pos 0)
medium-zero = record { above = omega (arith, ints); below = omega (arith, ints) }

pub medium_read : (z : ℤ) → IsMedium z → to_z w64 (of_z w64 z) ≡ z
medium_read z s = omega (arith, ints)

-- numbers so small are read back as they are
pub fits_small : (z : ℤ) → IsSmall z → SFits w64 z
fits_small z s = search (rules, s)

pub fits_medium : (z : ℤ) → IsMedium z → SFits w64 z
fits_medium z s = search (rules, s)

-- what a way, and half of the least of three, is worth
pub way_sized : (near far c around : ℤ) → IsSmall near → IsSmall far → IsSmall c → IsRound around → IsMedium (int_min (near +ℤ c) (far +ℤ around))
way_sized near far c around hn hf hc ha = record { above = omega (arith, ints, clamps); below = omega (arith, ints, clamps) }

pub half_least_sized : (b x y : ℤ) → IsSmall b → Within (negsuc 140737488355327) (pos 140737488355328) x → Within (negsuc 140737488355327) (pos 140737488355328) y → IsMedium (half_of (int_min b (int_min x y)))
half_least_sized b x y hb hx hy =
    let p = half_le (int_min b (int_min x y)) in
    let q = le_half (int_min b (int_min x y)) in
    record { above = omega (arith, ints, clamps); below = omega (arith, ints, clamps) }

pub fits_sum : (a b : ℤ) → IsMedium a → IsMedium b → SFits w64 (a +ℤ b)
fits_sum a b p q = let w : Within (negsuc 140737488355327) (pos 140737488355328) (a +ℤ b) = record { above = omega (arith, ints); below = omega (arith, ints) } in search (rules, w)

pub medium_small : (z : ℤ) → IsSmall z → IsMedium z
medium_small z s = record { above = omega (arith, ints); below = omega (arith, ints) }

pub medium_round : (z : ℤ) → IsRound z → IsMedium z
medium_round z s = record { above = omega (arith, ints); below = omega (arith, ints) }

pub sum_sized : (a b : ℤ) → IsMedium a → IsMedium b → Within (negsuc 140737488355327) (pos 140737488355328) (a +ℤ b)
sum_sized a b p q = record { above = omega (arith, ints); below = omega (arith, ints) }

-- what the tests of the code say
pub lt_of : (a b : ℤ) → lt_z a b ≡ true → a <ℤ b
lt_of a b h = grind (arith, ints)

pub le_of : (a b : ℤ) → lt_z a b ≡ false → b ≤ℤ a
le_of a b h = grind (arith, ints)

pub not_le : (a b : ℤ) → a <ℤ b → int_le b a ≡ false
not_le a b h = grind (arith, ints)

pub does_le : (a b : ℤ) → b ≤ℤ a → int_le b a ≡ true
does_le a b h = grind (arith, ints)

pub small_neg : (z : ℤ) → IsSmall (neg_ℤ z) → IsSmall z
small_neg z s = let a = s.above in let b = s.below in record { above = omega (arith, ints); below = omega (arith, ints) }

pub neg-sub : (z : ℤ) → pos 0 -ℤ z ≡ neg_ℤ z
neg-sub z = omega (arith, ints)

pub small_negated : (z : ℤ) → IsSmall z → IsSmall (neg_ℤ z)
small_negated z s = let a = s.above in let b = s.below in record { above = omega (arith, ints); below = omega (arith, ints) }

pub fits_negated : (z : ℤ) → IsSmall z → SFits w64 (pos 0 -ℤ z)
fits_negated z s = fits_small _ (subst IsSmall (sym (neg-sub z)) (small_negated z s))

-- a number below 2^40 in size
pub abs_within : (z : ℤ) → unsigned_abs z < 2 ^ 40 → Within (negsuc 1099511627774) (pos 1099511627775) z
abs_within (pos n) h = record { above = omega (arith, ints); below = omega (arith, ints) }
abs_within (negsuc n) h = record { above = omega (arith, ints); below = omega (arith, ints) }

pub doubled : (z : ℤ) → unsigned_abs z < 2 ^ 40 → to_z w64 (of_z w64 (pos 2 *ℤ to_z w64 (of_z w64 z))) ≡ z +ℤ z
doubled z h = let w = abs_within z h in let a = w.above in let b = w.below in omega (arith, ints)

pub doubled-minus : (z : ℤ) → unsigned_abs z < 2 ^ 40 → to_z w64 (of_z w64 (negsuc 1 *ℤ to_z w64 (of_z w64 z))) ≡ neg_ℤ (z +ℤ z)
doubled-minus z h = let w = abs_within z h in let a = w.above in let b = w.below in omega (arith, ints)
