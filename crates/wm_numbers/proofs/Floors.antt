-- Laws on division by a power of two, rounded down.
use Rattle.std.proofs.Common.{◌≡◌, ⊎_elim, refl, sym, ap, ◌∙◌, arith, ℕ, ◌+◌, ◌≤◌, ◌<◌, ◌^◌, ℤ, pos, negsuc, ◌+ℤ◌, ◌*ℤ◌, neg_ℤ, ◌≤ℤ◌, ◌<ℤ◌}
use Rattle.std.proofs.Math.Pow.{pow_pos}
use Rattle.std.proofs.Math.Nat.{mul-le-mul_right, div-le_self, mul_comm}
use Rattle.std.proofs.lemmas.Nat.{pow-add}
use Rattle.wm_numbers.specs.Within.{Within}
use lib.Signed.{shr_z}
use Rattle.std.proofs.lemmas.Int.{ints}
use Rattle.std.specs.Int.{int_div_euclid}
use Rattle.wm_numbers.specs.Floor.{floor_shift}
use Rattle.wm_numbers.proofs.Order.{le_antisym, le_or_lt}
use Rattle.wm_numbers.proofs.Products.{mul_keeps, mul_over_add, mul_again}
use borrow.Author.Differences.{up, down}

-- the quotient q that rounds down has q * k ≤ z < q * k + k
parts : (z : ℤ) (k : ℕ) → 0 < k → ((int_div_euclid z (pos k) *ℤ pos k) ≤ℤ z) × (z <ℤ (int_div_euclid z (pos k) *ℤ pos k +ℤ pos k))
parts (pos a) k h = (omega (arith, ints), omega (arith, ints))
parts (negsuc a) k h = (omega (arith, ints), omega (arith, ints))

pub floor_below : (z : ℤ) (n : ℕ) → (floor_shift z n *ℤ pos (2 ^ n)) ≤ℤ z
floor_below z n = (parts z (2 ^ n) (pow_pos n)).0

pub floor_above : (z : ℤ) (n : ℕ) → z <ℤ (floor_shift z n *ℤ pos (2 ^ n) +ℤ pos (2 ^ n))
floor_above z n = (parts z (2 ^ n) (pow_pos n)).1

smaller : (a b : ℤ) (k : ℕ) → (a *ℤ pos k) <ℤ (b *ℤ pos k +ℤ pos k) → a ≤ℤ b
smaller a b k l = ⊎_elim (λ h. h) (λ h. absurd (let step : (up b + down a) + 1 ≤ up a + down b = omega (arith, ints) in omega (arith, ints, mul-le-mul_right k step))) (le_or_lt a b)

-- the order stays
pub floor_mono : {a b : ℤ} (n : ℕ) → a ≤ℤ b → floor_shift a n ≤ℤ floor_shift b n
floor_mono {a} {b} n h = smaller _ _ (2 ^ n) (omega (arith, ints, floor_below a n, floor_above b n))

-- it is the greatest whole number that is at most z / 2^n
pub floor_greatest : (z q : ℤ) (n : ℕ) → (q *ℤ pos (2 ^ n)) ≤ℤ z → q ≤ℤ floor_shift z n
floor_greatest z q n h = smaller _ _ (2 ^ n) (omega (arith, ints, floor_above z n))

-- and below each whole number that is above it
pub floor_least : (z q : ℤ) (n : ℕ) → z <ℤ (q *ℤ pos (2 ^ n) +ℤ pos (2 ^ n)) → floor_shift z n ≤ℤ q
floor_least z q n h = smaller _ _ (2 ^ n) (omega (arith, ints, floor_below z n))

-- the one whole number q with q * 2^n ≤ z < q * 2^n + 2^n
pub floor_is : (z q : ℤ) (n : ℕ) → (q *ℤ pos (2 ^ n)) ≤ℤ z → z <ℤ (q *ℤ pos (2 ^ n) +ℤ pos (2 ^ n)) → floor_shift z n ≡ q
floor_is z q n h k = le_antisym (floor_least z q n k) (floor_greatest z q n h)

pub floor_zero : (z : ℤ) → floor_shift z 0 ≡ z
floor_zero z = floor_is z z 0 (omega (arith, ints)) (omega (arith, ints))

-- whole multiples of 2^n come through
pub floor_add : (z q : ℤ) (n : ℕ) → floor_shift (z +ℤ q *ℤ pos (2 ^ n)) n ≡ floor_shift z n +ℤ q
floor_add z q n =
    let over = mul_over_add (floor_shift z n) q (pos (2 ^ n)) in
    floor_is _ _ n (omega (arith, ints, floor_below z n)) (omega (arith, ints, floor_above z n))

-- a number that is not negative stays so, and does not grow
pub floor_of_natural : (z : ℤ) (n : ℕ) → pos 0 ≤ℤ z → Within (pos 0) z (floor_shift z n)
floor_of_natural (pos a) n h = record { above = omega (arith, ints); below = omega (arith, ints, div-le_self a (2 ^ n)) }
floor_of_natural (negsuc a) n h = absurd h.le

-- a negative number stays so, and does not fall
pub floor_of_negative : (z : ℤ) (n : ℕ) → z ≤ℤ negsuc 0 → Within z (negsuc 0) (floor_shift z n)
floor_of_negative (pos a) n h = absurd h.le
floor_of_negative (negsuc a) n h = record { above = omega (arith, ints, div-le_self a (2 ^ n)); below = omega (arith, ints) }

-- past the number's size nothing is left but its sign
pub floor_to_zero : (z : ℤ) (n : ℕ) → pos 0 ≤ℤ z → z <ℤ pos (2 ^ n) → floor_shift z n ≡ pos 0
floor_to_zero z n h k = floor_is z (pos 0) n (omega (arith, ints)) (omega (arith, ints))

pub floor_to_minus_one : (z : ℤ) (n : ℕ) → z ≤ℤ negsuc 0 → neg_ℤ (pos (2 ^ n)) ≤ℤ z → floor_shift z n ≡ negsuc 0
floor_to_minus_one z n h k = floor_is z (negsuc 0) n (omega (arith, ints)) (omega (arith, ints))

-- two shifts are one
pub floor_twice : (z : ℤ) (m n : ℕ) → floor_shift (floor_shift z m) n ≡ floor_shift z (m + n)
floor_twice z m n =
    let f = floor_shift z m in
    let q = floor_shift f n in
    let power : pos (2 ^ n) *ℤ pos (2 ^ m) ≡ pos (2 ^ (m + n)) = ap pos (mul_comm (2 ^ n) (2 ^ m) ∙ sym (pow-add 2 m n)) in
    let whole : (q *ℤ pos (2 ^ n)) *ℤ pos (2 ^ m) ≡ q *ℤ pos (2 ^ (m + n)) = mul_again q (pos (2 ^ n)) (pos (2 ^ m)) ∙ ap (λ (x : ℤ). q *ℤ x) power in
    let over = mul_over_add (q *ℤ pos (2 ^ n)) (pos (2 ^ n)) (pos (2 ^ m)) in
    let plus_one = mul_over_add f (pos 1) (pos (2 ^ m)) in
    let one_is : pos 1 *ℤ pos (2 ^ m) ≡ pos (2 ^ m) = omega (arith, ints) in
    let inner : ((q *ℤ pos (2 ^ n)) *ℤ pos (2 ^ m)) ≤ℤ (f *ℤ pos (2 ^ m)) = mul_keeps (omega (arith, ints)) (floor_below f n) in
    let next : (f +ℤ pos 1) ≤ℤ (q *ℤ pos (2 ^ n) +ℤ pos (2 ^ n)) = omega (arith, ints, floor_above f n) in
    let outer : ((f +ℤ pos 1) *ℤ pos (2 ^ m)) ≤ℤ ((q *ℤ pos (2 ^ n) +ℤ pos (2 ^ n)) *ℤ pos (2 ^ m)) = mul_keeps (omega (arith, ints)) next in
    let low = floor_below z m in
    let high = floor_above z m in
    sym (floor_is z q (m + n) (omega (arith, ints)) (omega (arith, ints)))

-- what the shift of a machine gives
pub floor_machine : (z : ℤ) (n : ℕ) → shr_z z (2 ^ n) ≡ floor_shift z n
floor_machine (pos a) n = refl
floor_machine (negsuc a) n = refl
