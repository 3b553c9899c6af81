-- Numbers of which those above 10^15 are all alike.
use Rattle.std.proofs.Common.{◌≡◌, ℕ, zero, suc, ◌+◌, ◌*◌, ◌<◌, ◌≤◌, ⊎_elim, min, ap, sym, ◌∙◌, subst, arith}
use Rattle.std.proofs.lemmas.Bool.{cases_lt}
use Rattle.std.proofs.lemmas.Bool.Decides.{nat_tests}
use Rattle.wm_ways.specs.Numbers.{cut}

pub cut_is : (n : ℕ) → cut n ≡ min n 1000000000000001
cut_is n = grind (arith, nat_tests)

least_sum : (x x' y y' limit : ℕ) → min x limit ≤ min x' limit → min y limit ≤ min y' limit → min (x + y) limit ≤ min (x' + y') limit
least_sum x x' y y' limit p q = omega arith

-- a relation between numbers that are cut
pub cut_least : (x y : ℕ) → cut x ≤ cut y → min x 1000000000000001 ≤ min y 1000000000000001
cut_least x y h = subst (λ (n : ℕ). n ≤ min y 1000000000000001) (cut_is x) (subst (λ (n : ℕ). cut x ≤ n) (cut_is y) h)

pub least_cut : (x y : ℕ) → min x 1000000000000001 ≤ min y 1000000000000001 → cut x ≤ cut y
least_cut x y h = subst (λ (n : ℕ). n ≤ cut y) (sym (cut_is x)) (subst (λ (n : ℕ). min x 1000000000000001 ≤ n) (sym (cut_is y)) h)

pub cut_sum : (x x' y y' : ℕ) → cut x ≤ cut x' → cut y ≤ cut y' → cut (x + y) ≤ cut (x' + y')
cut_sum x x' y y' p q = least_cut (x + y) (x' + y') (least_sum x x' y y' 1000000000000001 (cut_least x x' p) (cut_least y y' q))

pub cut_up : (x y : ℕ) → x ≤ y → cut x ≤ cut y
cut_up x y h = least_cut x y (least_up x y 1000000000000001 h)
  where
    least_up : (x y limit : ℕ) → x ≤ y → min x limit ≤ min y limit
    least_up x y limit h = omega arith

least_turns : (n b limit : ℕ) → min (n * min b limit) limit ≡ min (n * b) limit
least_turns zero b limit = omega arith
least_turns (suc n) b limit =
    ⊎_elim
    (λ (below : b < limit). let same : min b limit ≡ b = omega (arith, below) in ap (λ (m : ℕ). min (suc n * m) limit) same)
    (λ (above : limit ≤ b).
    let same : min b limit ≡ limit = omega (arith, above) in
    let left : min (suc n * limit) limit ≡ limit = at_most (suc n * limit) limit (omega arith) in
    let right : min (suc n * b) limit ≡ limit = at_most (suc n * b) limit (omega (arith, above)) in
    ap (λ (m : ℕ). min (suc n * m) limit) same ∙ left ∙ sym right)
    (cases_lt b limit)
  where
    at_most : (m limit : ℕ) → limit ≤ m → min m limit ≡ limit
    at_most m limit h = omega (arith, h)

pub cut_turns : (n b : ℕ) → cut (n * cut b) ≡ cut (n * b)
cut_turns n b = ap (λ (m : ℕ). cut (n * m)) (cut_is b) ∙ cut_is (n * min b 1000000000000001) ∙ least_turns n b 1000000000000001 ∙ sym (cut_is (n * b))

pub cut_again : (n : ℕ) → cut (cut n) ≡ cut n
cut_again n = ap cut (cut_is n) ∙ cut_is (min n 1000000000000001) ∙ least_again n 1000000000000001 ∙ sym (cut_is n)
  where
    least_again : (n limit : ℕ) → min (min n limit) limit ≡ min n limit
    least_again n limit = omega arith

more_turns : (n a b : ℕ) → a ≤ b → n * a ≤ n * b
more_turns n a b h = grind arith

-- so many turns of what is at most a number when it is cut
pub turns_least : (n b known : ℕ) → cut b ≤ known → cut (n * b) ≤ cut (n * known)
turns_least n b known h = subst (λ (m : ℕ). m ≤ cut (n * known)) (cut_turns n b) (cut_up (n * cut b) (n * known) (more_turns n (cut b) known h))

least_right : (x y limit : ℕ) → min (x + min y limit) limit ≡ min (x + y) limit
least_right x y limit = omega arith

pub cut_right : (x y : ℕ) → cut (x + cut y) ≡ cut (x + y)
cut_right x y = ap (λ (n : ℕ). cut (x + n)) (cut_is y) ∙ cut_is (x + min y 1000000000000001) ∙ least_right x y 1000000000000001 ∙ sym (cut_is (x + y))

pub cut_same : (x x' y y' : ℕ) → cut x ≡ cut x' → cut y ≡ cut y' → cut (x + y) ≡ cut (x' + y')
cut_same x x' y y' p q =
    let left : x + cut y' ≡ cut y' + x = omega arith in
    let right : cut y' + x' ≡ x' + cut y' = omega arith in
    sym (cut_right x y) ∙ ap (λ (n : ℕ). cut (x + n)) q ∙ ap cut left ∙ sym (cut_right (cut y') x) ∙ ap (λ (n : ℕ). cut (cut y' + n)) p
    ∙ cut_right (cut y') x' ∙ ap cut right ∙ cut_right x' y'

-- what is above 10^15 is so before it is cut
pub cut_above : (x : ℕ) → 1000000000000000 < cut x → 1000000000000000 < x
cut_above x h = least_above x 1000000000000000 1000000000000001 (subst (λ (n : ℕ). 1000000000000000 < n) (cut_is x) h)
  where
    least_above : (x low limit : ℕ) → low < min x limit → low < x
    least_above x low limit h = omega arith
