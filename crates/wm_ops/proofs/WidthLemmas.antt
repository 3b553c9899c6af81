-- The value of each operator lies in the type of its result.
use Rattle.std.proofs.Common.{◌≡◌, ⊎_elim, arith, ℕ, zero, suc, ◌+◌, ◌*◌, ◌/◌, ◌≤◌, ◌<◌, ◌^◌, ℤ, pos, negsuc, ◌+ℤ◌, ◌≤ℤ◌, Bool, true, false, IsTrue, refl, sym, ap, nat_le, cond}
use Rattle.std.proofs.lemmas.Int.{ints, clamps}
use Rattle.std.specs.Int.{int_max, int_min}
use Rattle.std.specs.Ordering.{int_eq}
use Rattle.std.proofs.Math.Pow.{pow_pos}
use Rattle.std.proofs.Math.Nat.{two-pow-succ, mul-le-mul_right, div-lt_iff_lt-mul}
use Rattle.std.proofs.lemmas.Bool.{cases_lt}
use Rattle.std.proofs.lemmas.Bool.Decides.{not_from_Decides, Decides-int_eq}
use Rattle.wm_numbers.specs.Within.{Within, IsWord16, IsWord32}
use Rattle.wm_numbers.specs.Floor.{floor_shift}
use Rattle.wm_numbers.specs.Clamp.{clamp16, clamp32}
use Rattle.wm_numbers.proofs.Clamps.{clamp_within}
use Rattle.wm_numbers.proofs.Floors.{floor_below, floor_above, floor_least, floor_greatest, floor_of_natural, floor_of_negative}
use Rattle.wm_ops.specs.Shifts.{IsRounded, rounded_shift}
use Rattle.wm_ops.specs.Parts.{low_half, IsLowHalf}
use Rattle.wm_ops.specs.Norms.{doublings, norm_in}
use Rattle.wm_ops.specs.Division.{InQuotient, is_quotient, quotient}

pub clamp16_fits : (z : ℤ) → IsWord16 (clamp16 z)
clamp16_fits z = clamp_within (negsuc 32767) (pos 32767) z (omega (arith, ints))

pub clamp32_fits : (z : ℤ) → IsWord32 (clamp32 z)
clamp32_fits z = clamp_within (negsuc 2147483647) (pos 2147483647) z (omega (arith, ints))

-- a shift to the right stays between a number and its sign
pub floor_fits : (low high z : ℤ) (n : ℕ) → low ≤ℤ negsuc 0 → pos 0 ≤ℤ high → Within low high z → Within low high (floor_shift z n)
floor_fits low high (pos z) n h k within =
    let shift = floor_of_natural (pos z) n (omega (arith, ints)) in
    record { above = omega (arith, ints, shift.above, h); below = omega (arith, ints, shift.below, within.below) }
floor_fits low high (negsuc z) n h k within =
    let shift = floor_of_negative (negsuc z) n (omega (arith, ints)) in
    record { above = omega (arith, ints, shift.above, within.above); below = omega (arith, ints, shift.below, k) }

-- rounded to the nearest it does not pass the ends of a type
pub rounded_fits : (size : ℕ) (z : ℤ) (n : ℕ) → 0 < size → Within (negsuc size) (pos size) z → Within (negsuc size) (pos size) (rounded_shift z n)
rounded_fits size z n positive within =
    let double = ap (λ (p : ℕ). size * p) (two-pow-succ n) in
    let more : 1 * size ≤ 2 ^ n * size = mul-le-mul_right size (pow_pos n) in
    let half = two-pow-succ n in
    record {
      above = floor_greatest _ (negsuc size) (suc n) (omega (arith, ints, more, double, half, within.above));
      below = floor_least _ (pos size) (suc n) (omega (arith, ints, more, double, half, within.below));
    }

pub high_half_fits : (z : ℤ) → IsWord32 z → IsWord16 (floor_shift z 16)
high_half_fits z within = record {
  above = floor_greatest z (negsuc 32767) 16 (omega (arith, ints, within.above));
  below = floor_least z (pos 32767) 16 (omega (arith, ints, within.below));
}

pub low_half_fits : (z : ℤ) → IsWord16 (low_half z)
unfolding low_half
low_half_fits z = record {
  above = omega (arith, ints, floor_below (z +ℤ pos 32768) 16, floor_above (z +ℤ pos 32768) 16);
  below = omega (arith, ints, floor_below (z +ℤ pos 32768) 16, floor_above (z +ℤ pos 32768) 16);
}

room_step : (room more : ℕ) (test : Bool) → more ≤ room → cond test 0 (suc more) ≤ suc room
room_step room more true h = omega arith
room_step room more false h = omega arith

pub doublings_room : (room limit n : ℕ) → doublings room limit n ≤ room
unfolding doublings
doublings_room zero limit n = omega arith
doublings_room (suc room) limit n = room_step room _ (nat_le limit n) (doublings_room room limit (2 * n))

pub norm_fits : (places : ℕ) (z : ℤ) → Within (pos 0) (pos (places + 1)) (pos (norm_in places z))
norm_fits places (pos zero) = record { above = omega (arith, ints); below = omega (arith, ints) }
norm_fits places (pos (suc n)) = record { above = omega (arith, ints); below = omega (arith, ints, doublings_room places (2 ^ places) (suc n)) }
norm_fits places (negsuc zero) = record { above = omega (arith, ints); below = omega (arith, ints) }
norm_fits places (negsuc (suc n)) = record { above = omega (arith, ints); below = omega (arith, ints, doublings_room places (2 ^ places) (suc n)) }

pub greater_fits : (low high a b : ℤ) → Within low high a → Within low high b → Within low high (int_max a b)
greater_fits low high a b h k = record { above = omega (arith, ints, clamps, h.above, k.above); below = omega (arith, ints, clamps, h.below, k.below) }

pub lesser_fits : (low high a b : ℤ) → Within low high a → Within low high b → Within low high (int_min a b)
lesser_fits low high a b h k = record { above = omega (arith, ints, clamps, h.above, k.above); below = omega (arith, ints, clamps, h.below, k.below) }

pub quotient_domain : (a b : ℤ) → IsTrue (is_quotient a b) → InQuotient a b
unfolding is_quotient
quotient_domain a b domain = record { natural = grind (arith, ints); at_most = grind (arith, ints); positive = grind (arith, ints) }

pub quotient_domain-back : (a b : ℤ) → InQuotient a b → is_quotient a b ≡ true
unfolding is_quotient
quotient_domain-back a b facts = let low = facts.natural in let high = facts.at_most in let positive = facts.positive in grind (arith, ints)

quotient_of : (a b : ℕ) (test : Bool) → test ≡ int_eq (pos a) (pos b) → a ≤ b → 0 < b → IsWord16 (cond test (pos 32767) (pos (a * 32768 / b)))
quotient_of a b true same h k = record { above = omega (arith, ints); below = omega (arith, ints) }
quotient_of a b false other h k =
    let differs : ¬ (pos a ≡ pos b) = not_from_Decides (int_eq (pos a) (pos b)) (Decides-int_eq (pos a) (pos b)) (sym other) in
    let less : a < b = ⊎_elim (λ below. below) (λ above. absurd (differs (ap pos (omega (arith, above, h))))) (cases_lt a b) in
    let small : a * 32768 / b < 32768 = (div-lt_iff_lt-mul k).1 (omega (arith, less)) in
    record { above = omega (arith, ints); below = omega (arith, ints, small) }

-- the quotient in its domain is a number of 16 bits that is not negative
pub quotient_fits : (a b : ℤ) → IsTrue (is_quotient a b) → IsWord16 (quotient a b)
unfolding quotient
quotient_fits (pos a) (pos b) domain =
    let facts = quotient_domain (pos a) (pos b) domain in
    quotient_of a b (int_eq (pos a) (pos b)) refl (omega (arith, ints, facts.at_most)) (omega (arith, ints, facts.positive))
quotient_fits (pos a) (negsuc b) domain = let facts = quotient_domain (pos a) (negsuc b) domain in absurd (omega (arith, ints, facts.positive))
quotient_fits (negsuc a) b domain = let facts = quotient_domain (negsuc a) b domain in absurd (omega (arith, ints, facts.natural))

-- the low half differs from the number by a multiple of 65536
pub low_half-is : (z : ℤ) → IsLowHalf z (low_half z)
unfolding low_half
low_half-is z = record { within = low_half_fits z; multiple = floor_shift (z +ℤ pos 32768) 16; differs = omega (arith, ints) }

-- a rounded shift gives the nearest whole number
pub rounded-is : (z : ℤ) (n : ℕ) → IsRounded z (suc n) (rounded_shift z n)
rounded-is z n =
    let double = two-pow-succ n in
    let low = floor_below (z +ℤ pos (2 ^ n)) (suc n) in
    let high = floor_above (z +ℤ pos (2 ^ n)) (suc n) in
    record { below = omega (arith, ints, double, low); above = omega (arith, ints, double, high) }
