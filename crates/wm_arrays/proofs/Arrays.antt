-- Summaries and the arrays that they hold of.
use Rattle.std.proofs.Common.{◌≡◌, ◌≢◌, ℕ, zero, suc, ◌<◌, ◌≤◌, ℤ, inl, inr, length, get_or, sym, ◌∙◌, subst, refl, arith, get_or-set_same, get_or-set_other}
use Rattle.std.specs.Prelude.{Some, None, Bool, false, IsTrue, ◌↔◌}
use Rattle.std.proofs.Math.ListN.{replicate}
use Rattle.std.proofs.lemmas.List.{length-replicate, get_or-replicate}
use Rattle.std.proofs.lemmas.Int.{ints}
use Rattle.wm_interval.specs.declared.Interval.{Interval}
use Rattle.wm_interval.specs.Holds.{Holds}
use Rattle.wm_numbers.proofs.Order.{low_within}
use Rattle.wm_arrays.specs.declared.summary.Summary.{Summary}
use Rattle.wm_arrays.specs.declared.summary.Summary.TheVariants.{Empty, Range}
use Rattle.wm_arrays.specs.Meaning.{Allows, AllowsEach, IsIncluded, IncludesEach, IsEither, IsLeastFor, KeepsWrites, IsLeastKeeping}

some_is : (x z : ℤ) → Some x ≡ Some z → x ≡ z
some_is x z e = cc

none_is_no_number : {P : Type 0} (z : ℤ) → None ≡ Some z → P
none_is_no_number z e = cc

-- an array whose cells are all one number
alike : (s : Summary) (n : ℕ) (x : ℤ) → Allows s x → AllowsEach s (replicate n (Some x))
alike s n x h = record { each = λ k z e. alike_at s n x h k z e }
  where
    alike_at : (s : Summary) (n : ℕ) (x : ℤ) → Allows s x → (k : ℕ) (z : ℤ) → get_or (replicate n (Some x)) k None ≡ Some z → Allows s z
    alike_at s zero x h k z e = none_is_no_number z e
    alike_at s (suc n) x h zero z e = subst (Allows s) (some_is x z e) h
    alike_at s (suc n) x h (suc k) z e = alike_at s n x h k z e

-- what holds of each array that a summary holds of, holds of each of its numbers
included_from_arrays : (a b : Summary) → IncludesEach a b → IsIncluded a b
included_from_arrays a b h z p = (h (replicate 1 (Some z)) (alike a 1 z p)).each 0 z refl

arrays_from_included : (a b : Summary) → IsIncluded a b → IncludesEach a b
arrays_from_included a b h cells p = record { each = λ k z e. h z (p.each k z e) }

-- no number is allowed where an array of one unset cell is all there is
unset : (s : Summary) (n : ℕ) → AllowsEach s (replicate n None)
unset s n = record { each = λ k z e. unset_at n k z e }
  where
    unset_at : {P : Type 0} (n k : ℕ) (z : ℤ) → get_or (replicate n None) k None ≡ Some z → P
    unset_at zero k z e = none_is_no_number z e
    unset_at (suc n) zero z e = none_is_no_number z e
    unset_at (suc n) (suc k) z e = unset_at n k z e

-- what is written is allowed afterwards
written_is_allowed : (s u : Summary) (r : Interval) (n : ℕ) → 1 ≤ n → KeepsWrites s r n u → (z : ℤ) → Holds r z → Allows u z
written_is_allowed s u r n some h z w =
    let room : 0 < length (replicate n None) = subst (λ (m : ℕ). 0 < m) (sym (length-replicate n None)) (omega arith) in
    (h (replicate n None) 0 z (length-replicate n None) (omega arith) (unset s n) w).each 0 z (get_or-set_same (replicate n None) 0 (Some z) None room)

-- what is allowed stays so in an array of more than one cell
other_is_allowed : (s u : Summary) (r : Interval) (n : ℕ) → 2 ≤ n → KeepsWrites s r n u → (z : ℤ) → Allows s z → Allows u z
other_is_allowed s u r n more h z p =
    let apart : 1 ≢ 0 = omega arith in
    (h (replicate n (Some z)) 0 r.low (length-replicate n (Some z)) (omega arith) (alike s n z p) (low_within r.ordered)).each 1 z
    (get_or-set_other (replicate n (Some z)) 0 1 (Some r.low) None apart ∙ get_or-replicate n 1 (Some z) None (omega arith))

-- the least summary for a fact is included in each that allows what the fact holds of
least_is_included : (Is : ℤ → Type 0) (t u : Summary) → IsLeastFor Is t → ((z : ℤ) → Is z → Allows u z) → IsIncluded t u
least_is_included Is Empty u h k z p = absurd p
least_is_included Is (Range i) Empty h k z p = absurd (k i.low h.low_is.attained)
least_is_included Is (Range i) (Range j) h k z p =
    let low = k i.low h.low_is.attained in
    let high = k i.high h.high_is.attained in
    record { above = omega (arith, ints, low.above, p.above); below = omega (arith, ints, high.below, p.below) }

pub least_in_one : (s : Summary) (r : Interval) → IsLeastKeeping s r 1 (Range r)
least_in_one s r u h z p = written_is_allowed s u r 1 (omega arith) h z p

pub least_in_more : (s t : Summary) (r : Interval) (n : ℕ) → 2 ≤ n → IsLeastFor (IsEither s (Range r)) t → IsLeastKeeping s r n t
least_in_more s t r n more least u h = least_is_included (IsEither s (Range r)) t u least (λ z e.
    elim e [ inl p ↦ other_is_allowed s u r n more h z p | inr p ↦ written_is_allowed s u r n (omega arith) h z p ])

-- an interval has a number, so it is not included in an empty summary
not_in_empty : (a b : Summary) (i : Interval) → a ≡ Range i → b ≡ Empty → IsIncluded a b → ⊥
not_in_empty a b i e f h = subst (λ s. IsIncluded s Empty) e (subst (IsIncluded a) f h) i.low (low_within i.ordered)

never : {P : Type 0} → IsTrue false → P
never t = cc

pub outside_empty : (a b : Summary) (i : Interval) → a ≡ Range i → b ≡ Empty → IsTrue false ↔ IsIncluded a b
outside_empty a b i e f = (λ t. never t, λ h. absurd (not_in_empty a b i e f h))

-- inclusion of two intervals is inclusion of their summaries
pub included_as : (a b : Summary) (i j : Interval) (is : Bool) → a ≡ Range i → b ≡ Range j → (IsTrue is ↔ IsIncluded (Range i) (Range j)) → IsTrue is ↔ IsIncluded a b
included_as a b i j is e f h = subst (λ s. IsTrue is ↔ IsIncluded s b) (sym e) (subst (λ s. IsTrue is ↔ IsIncluded (Range i) s) (sym f) h)

-- and inclusion of all arrays
pub arrays_as : (a b : Summary) (is : Bool) → (IsTrue is ↔ IsIncluded a b) → IsTrue is ↔ IncludesEach a b
arrays_as a b is h = (λ t. arrays_from_included a b (h.0 t), λ k. h.1 (included_from_arrays a b k))
