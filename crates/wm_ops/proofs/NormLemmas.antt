-- The doublings of a number are the least that reach the limit, and its leading zeros tell them.
use Rattle.std.proofs.Common.{◌≡◌, ⊎_elim, arith, ℕ, zero, suc, ◌+◌, ◌*◌, ◌-◌, ◌≤◌, ◌<◌, ◌^◌, ℤ, pos, negsuc, ap, refl, sym, ◌∙◌, subst}
use Rattle.std.proofs.lemmas.Nat.{pow-add, leading_top}
use Rattle.std.proofs.lemmas.Bool.{cases_lt}
use Rattle.std.proofs.Math.Nat.{mul-le-mul_right, mul-lt-mul_of_pos_right, two-pow-succ, pow-le-pow_right, mul_assoc}
use Rattle.std.specs.Int.Count.{count_leading_zeros}
use Rattle.wm_ops.specs.Norms.{doublings, folded, norm_in, IsLeastShift}

-- doubling first or last is the same
twice : (n c : ℕ) → 2 * n * 2 ^ c ≡ n * 2 ^ suc c
twice n c =
    let power = ap (λ (p : ℕ). n * p) (two-pow-succ c) in
    let order = mul_assoc 2 n (2 ^ c) in
    omega (arith, power, order)

step : (room limit n : ℕ) → n < limit → doublings (suc room) limit n ≡ suc (doublings room limit (2 * n))
unfolding doublings
step room limit n h = grind arith

stop : (room limit n : ℕ) → limit ≤ n → doublings room limit n ≡ 0
unfolding doublings
stop zero limit n h = refl
stop (suc room) limit n h = grind arith

later : (limit n c : ℕ) → IsLeastShift limit n (suc c) → IsLeastShift limit (2 * n) c
later limit n c l = record {
  reaches = omega (arith, l.reaches, twice n c);
  least = λ d below. omega (arith, twice n d, l.least (suc d) (omega arith));
}

first : (limit n c : ℕ) → IsLeastShift limit n (suc c) → n < limit
first limit n c l = omega (arith, l.least 0 (omega arith))

-- whatever is the least is the number of doublings
pub doublings_is : (room limit n c : ℕ) → c ≤ room → IsLeastShift limit n c → doublings room limit n ≡ c
doublings_is room limit n zero h l = stop room limit n (omega (arith, l.reaches))
doublings_is zero limit n (suc c) h l = absurd (omega arith)
doublings_is (suc room) limit n (suc c) h l =
    step room limit n (first limit n c l) ∙ ap suc (doublings_is room limit (2 * n) c (omega arith) (later limit n c l))

earlier : (limit n c : ℕ) → n < limit → IsLeastShift limit (2 * n) c → (d : ℕ) → d < suc c → n * 2 ^ d < limit
earlier limit n c h l zero below = omega arith
earlier limit n c h l (suc d) below = omega (arith, twice n d, l.least d (omega arith))

one_more : (limit n c : ℕ) → n < limit → IsLeastShift limit (2 * n) c → IsLeastShift limit n (suc c)
one_more limit n c h l = record { reaches = omega (arith, l.reaches, twice n c); least = earlier limit n c h l }

at_once : (limit n : ℕ) → limit ≤ n → IsLeastShift limit n 0
at_once limit n h = record { reaches = omega arith; least = λ d below. absurd (omega arith) }

-- where the limit is within reach, the number of doublings is the least
pub doublings_least : (room limit n : ℕ) → limit ≤ n * 2 ^ room → IsLeastShift limit n (doublings room limit n)
doublings_least zero limit n h =
    let P : ℕ → Type 0 = λ c. IsLeastShift limit n c in
    subst P (sym (stop zero limit n (omega arith))) (at_once limit n (omega arith))
doublings_least (suc room) limit n h =
    let P : ℕ → Type 0 = λ c. IsLeastShift limit n c in
    ⊎_elim
    (λ below. subst P (sym (step room limit n below)) (one_more limit n _ below (doublings_least room limit (2 * n) (omega (arith, twice n room)))))
    (λ above. subst P (sym (stop (suc room) limit n above)) (at_once limit n above))
    (cases_lt n limit)

-- the highest digit of n stands at j: places - j doublings take it to 2 ^ places
top_is : (n j c : ℕ) → 2 ^ j ≤ n → n < 2 ^ suc j → IsLeastShift (2 ^ (j + c)) n c
top_is n j c low high = record {
  reaches = omega (arith, pow-add 2 j c, mul-le-mul_right (2 ^ c) low);
  least = λ d below.
      let more : n * 2 ^ d < 2 ^ suc j * 2 ^ d = mul-lt-mul_of_pos_right high (omega (arith, pow-le-pow_right {n = 2} (omega arith) {i = 0} {j = d} (omega arith))) in
      let most : 2 ^ (suc j + d) ≤ 2 ^ (j + c) = pow-le-pow_right {n = 2} (omega arith) (omega arith) in
      omega (arith, more, most, pow-add 2 (suc j) d);
}

-- the highest digit of a number below 2 ^ (places + 1) stands at most at `places`
low_enough : (n j places : ℕ) → 2 ^ j ≤ n → n < 2 ^ (places + 1) → j ≤ places
low_enough n j places low small =
    ⊎_elim (λ fits. omega arith)
    (λ beyond. absurd (let more : 2 ^ (places + 1) ≤ 2 ^ j = pow-le-pow_right {n = 2} (omega arith) beyond in omega (arith, more, low, small)))
    (cases_lt j (places + 1))

-- so there are at least 31 - places leading zeros among 32 digits
pub leading_enough :
    (n places : ℕ) → 0 < n → n < 2 ^ (places + 1) → places ≤ 30 → 31 - places ≤ count_leading_zeros 32 n
leading_enough n places positive small few =
    let most : 2 ^ (places + 1) ≤ 2 ^ 32 = pow-le-pow_right {n = 2} (omega arith) {i = places + 1} {j = 32} (omega arith) in
    let top = leading_top 32 n positive (omega (arith, most, small)) in
    let place = low_enough n top.0 places top.2 small in
    omega (arith, top.1, place)

-- and those beyond tell the doublings
pub leading_is :
    (n places : ℕ) → 0 < n → n < 2 ^ (places + 1) → places ≤ 30 →
    count_leading_zeros 32 n - (31 - places) ≡ doublings places (2 ^ places) n
leading_is n places positive small few =
    let most : 2 ^ (places + 1) ≤ 2 ^ 32 = pow-le-pow_right {n = 2} (omega arith) {i = places + 1} {j = 32} (omega arith) in
    let top = leading_top 32 n positive (omega (arith, most, small)) in
    let place = low_enough n top.0 places top.2 small in
    let P : ℕ → Type 0 = λ p. IsLeastShift (2 ^ p) n (places - top.0) in
    let least : P places = subst P (omega (arith, place)) (top_is n top.0 (places - top.0) top.2 top.3) in
    omega (arith, top.1, place) ∙ sym (doublings_is places (2 ^ places) n (places - top.0) (omega arith) least)

pub norm_at : (places : ℕ) (z : ℤ) → 0 < folded z → norm_in places z ≡ doublings places (2 ^ places) (folded z)
norm_at places (pos zero) h = absurd (omega arith)
norm_at places (pos (suc n)) h = refl
norm_at places (negsuc zero) h = absurd (omega arith)
norm_at places (negsuc (suc n)) h = refl

-- the norm is the least shift that brings the number to the top of its type
pub norm_least :
    (places : ℕ) (z : ℤ) → 0 < folded z → folded z < 2 ^ (places + 1) → IsLeastShift (2 ^ places) (folded z) (norm_in places z)
norm_least places z positive small =
    let P : ℕ → Type 0 = λ c. IsLeastShift (2 ^ places) (folded z) c in
    let reached : 1 * 2 ^ places ≤ folded z * 2 ^ places = mul-le-mul_right (2 ^ places) positive in
    subst P (sym (norm_at places z positive)) (doublings_least places (2 ^ places) (folded z) (omega (arith, reached)))
