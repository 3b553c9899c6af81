-- Numbers of which those above 10^15 are all alike, added and multiplied.
use Rattle.std.proofs.Common.{◌≡◌, ℕ, zero, suc, ◌+◌, ◌*◌, ◌<◌, ◌≤◌, ◌⊎◌, ⊎_elim, min, refl, ap, sym, ◌∙◌, arith}
use Rattle.std.proofs.lemmas.Bool.{cases_lt}
use Rattle.std.proofs.lemmas.Bool.Decides.{nat_tests}
use Rattle.wm_ways.specs.Numbers.{cut}

cut_is : (n : ℕ) → cut n ≡ min n 1000000000000001
cut_is n = grind (arith, nat_tests)

least_left : (a b limit : ℕ) → min (min a limit + b) limit ≡ min (a + b) limit
least_left a b limit = omega arith

least_right : (a b limit : ℕ) → min (a + min b limit) limit ≡ min (a + b) limit
least_right a b limit = omega arith

pub cut_left : (a b : ℕ) → cut (cut a + b) ≡ cut (a + b)
cut_left a b = ap (λ (n : ℕ). cut (n + b)) (cut_is a) ∙ cut_is (min a 1000000000000001 + b) ∙ least_left a b 1000000000000001 ∙ sym (cut_is (a + b))

pub cut_right : (a b : ℕ) → cut (a + cut b) ≡ cut (a + b)
cut_right a b = ap (λ (n : ℕ). cut (a + n)) (cut_is b) ∙ cut_is (a + min b 1000000000000001) ∙ least_right a b 1000000000000001 ∙ sym (cut_is (a + b))

least_turns : (n b limit : ℕ) → min (n * min b limit) limit ≡ min (n * b) limit
least_turns zero b limit = omega arith
least_turns (suc n) b limit =
    ⊎_elim
    (λ (below : b < limit). let same : min b limit ≡ b = omega (arith, below) in ap (λ (m : ℕ). min (suc n * m) limit) same)
    (λ (above : limit ≤ b).
    let same : min b limit ≡ limit = omega (arith, above) in
    let left : min (suc n * limit) limit ≡ limit = at_least (suc n * limit) limit (omega arith) in
    let right : min (suc n * b) limit ≡ limit = at_least (suc n * b) limit (omega (arith, above)) in
    ap (λ (m : ℕ). min (suc n * m) limit) same ∙ left ∙ sym right)
    (cases_lt b limit)
  where
    at_least : (m limit : ℕ) → limit ≤ m → min m limit ≡ limit
    at_least m limit h = omega (arith, h)

pub cut_turns : (n b : ℕ) → cut (n * cut b) ≡ cut (n * b)
cut_turns n b = ap (λ (m : ℕ). cut (n * m)) (cut_is b) ∙ cut_is (n * min b 1000000000000001) ∙ least_turns n b 1000000000000001 ∙ sym (cut_is (n * b))

pub cut_again : (n : ℕ) → cut (cut n) ≡ cut n
cut_again n = ap cut (cut_is n) ∙ cut_is (min n 1000000000000001) ∙ least_again n 1000000000000001 ∙ sym (cut_is n)
  where
    least_again : (n limit : ℕ) → min (min n limit) limit ≡ min n limit
    least_again n limit = omega arith

-- what is cut already, with nothing more
pub settled : (times rest whole : ℕ) → cut times ≡ times → rest ≡ 0 → cut (times + rest) ≡ whole → times ≡ whole
settled times rest whole same none h =
    let alone : times + rest ≡ times = omega (arith, none) in
    sym same ∙ sym (ap cut alone) ∙ h
