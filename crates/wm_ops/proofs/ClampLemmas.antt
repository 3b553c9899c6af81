-- When a clamp changes its number, and what it then gives.
use Rattle.std.proofs.Common.{◌≡◌, ◌⊎◌, ⊎_elim, inl, inr, arith, ℤ, pos, negsuc, Bool, true, false, IsTrue, ◌<ℤ◌, ap, ◌∙◌}
use Rattle.std.proofs.lemmas.Int.{ints}
use Rattle.wm_numbers.specs.Within.{IsWord16, IsWord32}
use Rattle.wm_numbers.specs.Clamp.{clamp16, clamp32}
use Rattle.wm_numbers.proofs.Clamps.{clamp_same, clamp_low, clamp_high, clamp_fixed}
use Rattle.wm_numbers.proofs.Order.{le_or_lt}
use Rattle.wm_ops.specs.declared.clamping.Clamped.{Clamped}
use Rattle.wm_ops.specs.Clamping.{leaves16, leaves32, exact, to16, to32}

pub leaves16_inside : (z : ℤ) → IsWord16 z → leaves16 z ≡ false
unfolding leaves16
leaves16_inside z within = let low = within.above in let high = within.below in grind (arith, ints)

pub leaves16_below : (z : ℤ) → z <ℤ negsuc 32767 → leaves16 z ≡ true
unfolding leaves16
leaves16_below z below = grind (arith, ints)

pub leaves16_above : (z : ℤ) → pos 32767 <ℤ z → leaves16 z ≡ true
unfolding leaves16
leaves16_above z above = grind (arith, ints)

pub leaves32_inside : (z : ℤ) → IsWord32 z → leaves32 z ≡ false
unfolding leaves32
leaves32_inside z within = let low = within.above in let high = within.below in grind (arith, ints)

pub leaves32_below : (z : ℤ) → z <ℤ negsuc 2147483647 → leaves32 z ≡ true
unfolding leaves32
leaves32_below z below = grind (arith, ints)

pub leaves32_above : (z : ℤ) → pos 2147483647 <ℤ z → leaves32 z ≡ true
unfolding leaves32
leaves32_above z above = grind (arith, ints)

-- the greatest number of 16 bits, by a clamp
abbrev pub top16 : Clamped
top16 = record { value = pos 32767; changed = true }

abbrev pub bottom16 : Clamped
bottom16 = record { value = negsuc 32767; changed = true }

abbrev pub top32 : Clamped
top32 = record { value = pos 2147483647; changed = true }

abbrev pub bottom32 : Clamped
bottom32 = record { value = negsuc 2147483647; changed = true }

pub to16_above : (z : ℤ) → pos 32767 <ℤ z → to16 z ≡ top16
to16_above z above =
    ap (λ (v : ℤ). record { value = v; changed = leaves16 z }) (clamp_high (negsuc 32767) (pos 32767) z (omega (arith, ints)) (omega (arith, ints))) ∙
    ap (λ b. record { value = pos 32767; changed = b }) (leaves16_above z above)

pub to16_below : (z : ℤ) → z <ℤ negsuc 32767 → to16 z ≡ bottom16
to16_below z below =
    ap (λ (v : ℤ). record { value = v; changed = leaves16 z }) (clamp_low (negsuc 32767) (pos 32767) z (omega (arith, ints)) (omega (arith, ints))) ∙
    ap (λ b. record { value = negsuc 32767; changed = b }) (leaves16_below z below)

pub to16_inside : (z : ℤ) → IsWord16 z → to16 z ≡ exact z
to16_inside z within =
    ap (λ (v : ℤ). record { value = v; changed = leaves16 z }) (clamp_same (negsuc 32767) (pos 32767) z within) ∙
    ap (λ b. record { value = z; changed = b }) (leaves16_inside z within)

pub to32_above : (z : ℤ) → pos 2147483647 <ℤ z → to32 z ≡ top32
to32_above z above =
    ap (λ (v : ℤ). record { value = v; changed = leaves32 z }) (clamp_high (negsuc 2147483647) (pos 2147483647) z (omega (arith, ints)) (omega (arith, ints))) ∙
    ap (λ b. record { value = pos 2147483647; changed = b }) (leaves32_above z above)

pub to32_below : (z : ℤ) → z <ℤ negsuc 2147483647 → to32 z ≡ bottom32
to32_below z below =
    ap (λ (v : ℤ). record { value = v; changed = leaves32 z }) (clamp_low (negsuc 2147483647) (pos 2147483647) z (omega (arith, ints)) (omega (arith, ints))) ∙
    ap (λ b. record { value = negsuc 2147483647; changed = b }) (leaves32_below z below)

pub to32_inside : (z : ℤ) → IsWord32 z → to32 z ≡ exact z
to32_inside z within =
    ap (λ (v : ℤ). record { value = v; changed = leaves32 z }) (clamp_same (negsuc 2147483647) (pos 2147483647) z within) ∙
    ap (λ b. record { value = z; changed = b }) (leaves32_inside z within)

-- a number is in the type, below it or above
pub place16 : (z : ℤ) → IsWord16 z ⊎ ((z <ℤ negsuc 32767) ⊎ (pos 32767 <ℤ z))
place16 z =
    ⊎_elim (λ low. ⊎_elim (λ high. inl (record { above = low; below = high })) (λ above. inr (inr above)) (le_or_lt z (pos 32767)))
    (λ below. inr (inl below)) (le_or_lt (negsuc 32767) z)

pub place32 : (z : ℤ) → IsWord32 z ⊎ ((z <ℤ negsuc 2147483647) ⊎ (pos 2147483647 <ℤ z))
place32 z =
    ⊎_elim (λ low. ⊎_elim (λ high. inl (record { above = low; below = high })) (λ above. inr (inr above)) (le_or_lt z (pos 2147483647)))
    (λ below. inr (inl below)) (le_or_lt (negsuc 2147483647) z)

not_both : (b : Bool) → b ≡ true → b ≡ false → ⊥
not_both b holds fails = cc

-- a clamp is noted exactly where it changes its number
pub leaves16_exact : (z : ℤ) → (IsTrue (leaves16 z) → clamp16 z ≡ z → ⊥) × ((clamp16 z ≡ z → ⊥) → IsTrue (leaves16 z))
leaves16_exact z = (
  λ leaves same. not_both (leaves16 z) leaves (leaves16_inside z (clamp_fixed (negsuc 32767) (pos 32767) z (omega (arith, ints)) same)),
  λ moved. ⊎_elim (λ inside. absurd (moved (clamp_same (negsuc 32767) (pos 32767) z inside))) (⊎_elim (leaves16_below z) (leaves16_above z)) (place16 z),
)

pub leaves32_exact : (z : ℤ) → (IsTrue (leaves32 z) → clamp32 z ≡ z → ⊥) × ((clamp32 z ≡ z → ⊥) → IsTrue (leaves32 z))
leaves32_exact z = (
  λ leaves same. not_both (leaves32 z) leaves (leaves32_inside z (clamp_fixed (negsuc 2147483647) (pos 2147483647) z (omega (arith, ints)) same)),
  λ moved. ⊎_elim (λ inside. absurd (moved (clamp_same (negsuc 2147483647) (pos 2147483647) z inside))) (⊎_elim (leaves32_below z) (leaves32_above z)) (place32 z),
)
