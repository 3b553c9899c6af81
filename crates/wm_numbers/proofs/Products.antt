-- Laws on products of whole numbers and their order.
use Rattle.std.proofs.Common.{◌≡◌, ⊎_elim, ap, arith, ℕ, zero, suc, ◌+◌, ◌*◌, ◌≤◌, ℤ, pos, negsuc, ◌+ℤ◌, ◌-ℤ◌, ◌*ℤ◌, neg_ℤ, ◌≤ℤ◌}
use Rattle.std.proofs.Math.Nat.{mul-le-mul_right, mul-le-mul}
use Rattle.std.specs.Prelude.{unsigned_abs}
use Rattle.std.proofs.Math.IntN.{*ℤ_comm}
use Rattle.std.proofs.lemmas.Int.{ints, unsigned_abs-mul}
use Rattle.wm_numbers.proofs.Order.{le_or_lt}
use Rattle.wm_numbers.specs.Within.{Within}
use borrow.Author.Differences.{up, down, le_out, product_is, sum_is_lem}

scaled : (a b : ℤ) (n : ℕ) → a ≤ℤ b → (a *ℤ pos n) ≤ℤ (b *ℤ pos n)
scaled a b n h = omega (arith, ints, mul-le-mul_right n (le_out a b h))

scaled_back : (a b : ℤ) (n : ℕ) → a ≤ℤ b → (b *ℤ negsuc n) ≤ℤ (a *ℤ negsuc n)
scaled_back a b n h = omega (arith, ints, mul-le-mul_right (suc n) (le_out a b h))

-- a factor that is not negative keeps the order
pub mul_keeps : {a b c : ℤ} → pos 0 ≤ℤ c → a ≤ℤ b → (a *ℤ c) ≤ℤ (b *ℤ c)
mul_keeps {a} {b} {c = pos n} h k = scaled a b n k
mul_keeps {c = negsuc n} h k = absurd h.le

pub mul_keeps_right : {a b c : ℤ} → pos 0 ≤ℤ c → a ≤ℤ b → (c *ℤ a) ≤ℤ (c *ℤ b)
mul_keeps_right {a} {b} {c} h k = rw (*ℤ_comm c a, *ℤ_comm c b) (mul_keeps h k)

-- a factor that is not positive turns it round
turned : (a b c : ℤ) → c ≤ℤ pos 0 → a ≤ℤ b → (b *ℤ c) ≤ℤ (a *ℤ c)
turned a b (pos zero) h k = omega (arith, ints)
turned a b (pos (suc n)) h k = absurd (omega (arith, ints))
turned a b (negsuc n) h k = scaled_back a b n k

pub mul_turns : {a b c : ℤ} → c ≤ℤ pos 0 → a ≤ℤ b → (b *ℤ c) ≤ℤ (a *ℤ c)
mul_turns {a} {b} {c} h k = turned a b c h k

pub mul_turns_right : {a b c : ℤ} → c ≤ℤ pos 0 → a ≤ℤ b → (c *ℤ b) ≤ℤ (c *ℤ a)
mul_turns_right {a} {b} {c} h k = rw (*ℤ_comm c a, *ℤ_comm c b) (mul_turns h k)

-- as an order of the factors tells the order of the products, so do the products tell that of the factors
pub mul_tells : {a b : ℤ} (n : ℕ) → (a *ℤ pos (suc n)) ≤ℤ (b *ℤ pos (suc n)) → a ≤ℤ b
mul_tells {a} {b} n h = ⊎_elim (λ k. k) (λ k. absurd (let step : (up b + down a) + 1 ≤ up a + down b = omega (arith, ints) in omega (arith, ints, mul-le-mul_right (suc n) step))) (le_or_lt a b)

-- a product over a sum
pub mul_over_add : (a b c : ℤ) → (a +ℤ b) *ℤ c ≡ a *ℤ c +ℤ b *ℤ c
mul_over_add a b c =
    let sum = sum_is_lem a b in
    let times_up = ap (λ (x : ℕ). x * up c) sum in
    let times_down = ap (λ (x : ℕ). x * down c) sum in
    omega (arith, ints)

pub mul_over_sub : (a b c : ℤ) → (a -ℤ b) *ℤ c ≡ a *ℤ c -ℤ b *ℤ c
mul_over_sub a b c =
    let sum : up (a -ℤ b) + down a + up b ≡ down (a -ℤ b) + up a + down b = omega (arith, ints) in
    let times_up = ap (λ (x : ℕ). x * up c) sum in
    let times_down = ap (λ (x : ℕ). x * down c) sum in
    omega (arith, ints)

-- the order in which three numbers are multiplied
pub mul_again : (a b c : ℤ) → (a *ℤ b) *ℤ c ≡ a *ℤ (b *ℤ c)
mul_again a b c =
    let left = product_is a b in
    let right = product_is b c in
    let left1 = ap (λ (x : ℕ). x * up c) left.0 in
    let left2 = ap (λ (x : ℕ). x * down c) left.0 in
    let left3 = ap (λ (x : ℕ). x * up c) left.1 in
    let left4 = ap (λ (x : ℕ). x * down c) left.1 in
    let right1 = ap (λ (x : ℕ). up a * x) right.0 in
    let right2 = ap (λ (x : ℕ). down a * x) right.0 in
    let right3 = ap (λ (x : ℕ). up a * x) right.1 in
    let right4 = ap (λ (x : ℕ). down a * x) right.1 in
    omega (arith, ints)

-- a number of size at most n lies between -n and n
pub abs_within : (a : ℤ) (n : ℕ) → unsigned_abs a ≤ n → Within (neg_ℤ (pos n)) (pos n) a
abs_within a n h = record { above = omega (arith, ints); below = omega (arith, ints) }

pub within_abs : (a : ℤ) (n : ℕ) → Within (neg_ℤ (pos n)) (pos n) a → unsigned_abs a ≤ n
within_abs a n h = omega (arith, ints)

-- a product of two numbers of sizes at most m and n has a size of at most m * n
pub mul_within : (a b : ℤ) (m n : ℕ) → Within (neg_ℤ (pos m)) (pos m) a → Within (neg_ℤ (pos n)) (pos n) b → Within (neg_ℤ (pos (m * n))) (pos (m * n)) (a *ℤ b)
mul_within a b m n h k = abs_within (a *ℤ b) (m * n) (rw (unsigned_abs-mul a b) (mul-le-mul (within_abs a m h) (within_abs b n k)))
