-- A shift by more than 32 places gives what one by 32 gives, since nothing but the sign is left, or nothing but a clamp.
use Rattle.std.proofs.Common.{◌≡◌, ⊎_elim, arith, ℕ, zero, suc, ◌≤◌, ◌^◌, min, ℤ, pos, negsuc, ◌*ℤ◌, ◌≤ℤ◌, ap, sym, ◌∙◌, FitsSigned, w64, to_z, of_z}
use Rattle.std.proofs.lemmas.Int.{ints, to_z-of_z}
use Rattle.std.proofs.Math.Nat.{pow-le-pow_right, two-pow-succ}
use Rattle.std.proofs.lemmas.Bool.{cases_lt}
use Rattle.wm_numbers.specs.Within.{IsWord16, IsWord32}
use Rattle.wm_numbers.specs.Floor.{floor_shift}
use Rattle.wm_numbers.proofs.Products.{mul_keeps}
use Rattle.wm_numbers.proofs.Floors.{floor_to_zero, floor_to_minus_one}
use Rattle.wm_ops.specs.Clamping.{to16, to32}
use Rattle.wm_ops.specs.Shifts.{shifted, rounded_shift}
use Rattle.wm_ops.proofs.ClampLemmas.{to16_above, to16_below, to32_above, to32_below}

-- more than 32 places is at least 2 ^ 32
pub far : (n : ℕ) → 32 ≤ n → 4294967296 ≤ 2 ^ n
far n h = pow-le-pow_right {n = 2} (omega arith) h

-- a number of 32 bits, shifted by at most 32 places, has 64 bits
pub shift_fits : (a : ℤ) (n : ℕ) → IsWord32 a → n ≤ 32 → FitsSigned w64 (a *ℤ pos (2 ^ n))
shift_fits a n within h =
    let power : 2 ^ n ≤ 4294967296 = pow-le-pow_right {n = 2} (omega arith) h in
    let low = mul_keeps {c = pos (2 ^ n)} (omega (arith, ints)) within.above in
    let high = mul_keeps {c = pos (2 ^ n)} (omega (arith, ints)) within.below in
    omega (arith, ints, power, low, high)

-- a positive number shifted far is above 32 bits
pub shifted_up : (a : ℤ) (n : ℕ) → pos 1 ≤ℤ a → 32 ≤ n → pos 4294967296 ≤ℤ shifted a n
shifted_up a n h k =
    let power = far n k in
    let more = mul_keeps {c = pos (2 ^ n)} (omega (arith, ints)) h in
    omega (arith, ints, power, more)

-- a negative one is below
pub shifted_down : (a : ℤ) (n : ℕ) → a ≤ℤ negsuc 0 → 32 ≤ n → shifted a n ≤ℤ negsuc 4294967295
shifted_down a n h k =
    let power = far n k in
    let more = mul_keeps {c = pos (2 ^ n)} (omega (arith, ints)) h in
    omega (arith, ints, power, more)

-- a count of more than 32, cut at 32
cut_far : (n : ℕ) → 32 ≤ n → min n 32 ≡ 32
cut_far n h = omega arith

cut_near : (n : ℕ) → n ≤ 32 → min n 32 ≡ n
cut_near n h = omega arith

left16_far : (a : ℤ) (m n : ℕ) → IsWord16 a → 32 ≤ m → 32 ≤ n → to16 (shifted a m) ≡ to16 (shifted a n)
left16_far (pos zero) m n within h k = ap to16 (omega (arith, ints))
left16_far (pos (suc a)) m n within h k =
    let left = shifted_up (pos (suc a)) m (omega (arith, ints)) h in
    let right = shifted_up (pos (suc a)) n (omega (arith, ints)) k in
    to16_above _ (omega (arith, ints, left)) ∙ sym (to16_above _ (omega (arith, ints, right)))
left16_far (negsuc a) m n within h k =
    let left = shifted_down (negsuc a) m (omega (arith, ints)) h in
    let right = shifted_down (negsuc a) n (omega (arith, ints)) k in
    to16_below _ (omega (arith, ints, left)) ∙ sym (to16_below _ (omega (arith, ints, right)))

left32_far : (a : ℤ) (m n : ℕ) → IsWord32 a → 32 ≤ m → 32 ≤ n → to32 (shifted a m) ≡ to32 (shifted a n)
left32_far (pos zero) m n within h k = ap to32 (omega (arith, ints))
left32_far (pos (suc a)) m n within h k =
    let left = shifted_up (pos (suc a)) m (omega (arith, ints)) h in
    let right = shifted_up (pos (suc a)) n (omega (arith, ints)) k in
    to32_above _ (omega (arith, ints, left)) ∙ sym (to32_above _ (omega (arith, ints, right)))
left32_far (negsuc a) m n within h k =
    let left = shifted_down (negsuc a) m (omega (arith, ints)) h in
    let right = shifted_down (negsuc a) n (omega (arith, ints)) k in
    to32_below _ (omega (arith, ints, left)) ∙ sym (to32_below _ (omega (arith, ints, right)))

right_far : (a : ℤ) (m n : ℕ) → IsWord32 a → 32 ≤ m → 32 ≤ n → floor_shift a m ≡ floor_shift a n
right_far (pos a) m n within h k =
    let left = far m h in
    let right = far n k in
    let high = within.below in
    floor_to_zero (pos a) m (omega (arith, ints)) (omega (arith, ints, left, high)) ∙
    sym (floor_to_zero (pos a) n (omega (arith, ints)) (omega (arith, ints, right, high)))
right_far (negsuc a) m n within h k =
    let left = far m h in
    let right = far n k in
    let low = within.above in
    floor_to_minus_one (negsuc a) m (omega (arith, ints)) (omega (arith, ints, left, low)) ∙
    sym (floor_to_minus_one (negsuc a) n (omega (arith, ints)) (omega (arith, ints, right, low)))

-- a shift to the left of a number of 16 bits, with its count cut at 32
pub left16_cut : (a : ℤ) (n : ℕ) → IsWord16 a → to16 (shifted a (min n 32)) ≡ to16 (shifted a n)
left16_cut a n within =
    ⊎_elim (λ near. ap (λ (k : ℕ). to16 (shifted a k)) (cut_near n (omega arith)))
    (λ more. left16_far a (min n 32) n within (omega arith) (omega arith)) (cases_lt n 32)

pub left32_cut : (a : ℤ) (n : ℕ) → IsWord32 a → to32 (shifted a (min n 32)) ≡ to32 (shifted a n)
left32_cut a n within =
    ⊎_elim (λ near. ap (λ (k : ℕ). to32 (shifted a k)) (cut_near n (omega arith)))
    (λ more. left32_far a (min n 32) n within (omega arith) (omega arith)) (cases_lt n 32)

pub right_cut : (a : ℤ) (n : ℕ) → IsWord32 a → floor_shift a (min n 32) ≡ floor_shift a n
right_cut a n within =
    ⊎_elim (λ near. ap (λ (k : ℕ). floor_shift a k) (cut_near n (omega arith)))
    (λ more. right_far a (min n 32) n within (omega arith) (omega arith)) (cases_lt n 32)

-- rounded by more than 32 places, a number of 32 bits is 0
pub rounded_far : (a : ℤ) (n : ℕ) → IsWord32 a → 32 ≤ n → rounded_shift a n ≡ pos 0
rounded_far a n within h =
    let half = far n h in
    let low = within.above in
    let high = within.below in
    let double = two-pow-succ n in
    floor_to_zero _ (suc n) (omega (arith, ints, half, low)) (omega (arith, ints, half, high, double))

-- 2 to the power of at most 32 has 64 bits
power_fits : (n : ℕ) → n ≤ 32 → FitsSigned w64 (pos (2 ^ n))
power_fits n h =
    let power : 2 ^ n ≤ 4294967296 = pow-le-pow_right {n = 2} (omega arith) h in
    omega (arith, ints, power)

-- the product that the code makes fits, and is the shifted number
pub passed_fits :
    (a p : ℤ) (n : ℕ) → FitsSigned w64 a → IsWord32 a → n ≤ 32 → p ≡ pos (2 ^ n) →
    FitsSigned w64 (to_z w64 (of_z w64 a) *ℤ to_z w64 (of_z w64 p))
passed_fits a p n fits within near power =
    rw (power, to_z-of_z w64 a fits, to_z-of_z w64 (pos (2 ^ n)) (power_fits n near)) (shift_fits a n within near)

pub passed_is :
    (a p : ℤ) (n : ℕ) → FitsSigned w64 a → IsWord32 a → n ≤ 32 → p ≡ pos (2 ^ n) →
    to_z w64 (of_z w64 (to_z w64 (of_z w64 a) *ℤ to_z w64 (of_z w64 p))) ≡ shifted a n
passed_is a p n fits within near power =
    rw (power, to_z-of_z w64 a fits, to_z-of_z w64 (pos (2 ^ n)) (power_fits n near)) (to_z-of_z w64 (shifted a n) (shift_fits a n within near))
