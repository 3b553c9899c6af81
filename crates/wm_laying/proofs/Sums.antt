-- Sums that stay at the greatest number of 32 bits.
use Rattle.std.proofs.Common.{◌≡◌, ℕ, zero, suc, ◌+◌, ◌-◌, ◌^◌, ◌<◌, ◌≤◌, min, Bool, true, false, List, [], ◌∷◌, refl, sym, subst, arith}
use Rattle.std.proofs.lemmas.Bool.Decides.{nat_tests}
use Rattle.std.proofs.Math.Nat.{min-le_right, min-eq_left, min-eq_right}
use Rattle.std.specs.Prelude.{nat_lt}
use Rattle.wm_scope.specs.declared.reading.CallPlace.{CallPlace}
use Rattle.wm_calls.specs.Repeated.{repeated}
use Rattle.wm_calls.specs.Sizes.{size_at, plus, size_from}

abbrev pub top : ℕ
top = 2 ^ 32 - 1

below : (s t : ℕ) → nat_lt s t ≡ true → s ≤ t
below s t e = grind (arith, nat_tests, e)

above : (s t : ℕ) → nat_lt s t ≡ false → t ≤ s
above s t e = grind (arith, nat_tests, e)

exact_by : (s t : ℕ) (b : Bool) → nat_lt s t ≡ b → min s t < t → min s t ≡ s
exact_by s t true e l = min-eq_left (below s t e)
exact_by s t false e l = absurd (same t (subst (λ n. n < t) (min-eq_right (above s t e)) l))
  where
    same : (t : ℕ) → t < t → ⊥
    same t l = omega (arith, l)

exact : (s t : ℕ) → min s t < t → min s t ≡ s
exact s t l = exact_by s t (nat_lt s t) refl l

more_by : (a s t : ℕ) (b : Bool) → nat_lt s t ≡ b → a ≤ s → a ≤ t → a ≤ min s t
more_by a s t true e h k = subst (λ n. a ≤ n) (sym (min-eq_left (below s t e))) h
more_by a s t false e h k = subst (λ n. a ≤ n) (sym (min-eq_right (above s t e))) k

pub plus_exact : (a b : ℕ) → plus a b < top → plus a b ≡ a + b
plus_exact a b l = exact (a + b) top l

pub plus_more : (a b : ℕ) → a ≤ top → a ≤ plus a b
plus_more a b h = more_by a (a + b) top (nat_lt (a + b) top) refl (first a b) h
  where
    first : (a b : ℕ) → a ≤ a + b
    first a b = omega arith

pub plus_top : (a b : ℕ) → plus a b ≤ top
plus_top a b = min-le_right (a + b) top

-- what is added to only grows
pub size_more : (sizes : List ℕ) (s : ℕ) (places : List CallPlace) → s ≤ top → s ≤ size_from sizes s places
size_more sizes s [] h = omega arith
size_more sizes s (place ∷ rest) h =
    let x = size_at sizes place.function in
    let one : s ≤ plus s x = plus_more s x h in
    let two : plus s x ≤ size_from sizes (plus s x) rest = size_more sizes (plus s x) rest (plus_top s x) in
    through s (plus s x) (size_from sizes (plus s x) rest) one two
  where
    through : (a b c : ℕ) → a ≤ b → b ≤ c → a ≤ c
    through a b c h k = omega (arith, h, k)

pub repeated_suc : {A : Type 0} (n : ℕ) (f : A → A) (x : A) → repeated (suc n) f x ≡ f (repeated n f x)
unfolding repeated
repeated_suc zero f x = refl
repeated_suc (suc n) f x = repeated_suc n f (f x)
