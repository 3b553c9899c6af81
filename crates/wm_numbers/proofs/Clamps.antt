-- Laws on saturation.
use Rattle.std.proofs.Common.{◌≡◌, ◌⊎◌, arith, ℤ, ◌≤ℤ◌, ◌<ℤ◌}
use Rattle.std.proofs.lemmas.Int.{ints, clamps}
use Rattle.wm_numbers.specs.Clamp.{clamp}
use Rattle.wm_numbers.specs.Within.{Within}

pub clamp_within : (low high z : ℤ) → low ≤ℤ high → Within low high (clamp low high z)
unfolding clamp
clamp_within low high z h = record { above = omega (arith, ints, clamps); below = omega (arith, ints, clamps) }

pub clamp_same : (low high z : ℤ) → Within low high z → clamp low high z ≡ z
unfolding clamp
clamp_same low high z w = omega (arith, ints, clamps)

pub clamp_low : (low high z : ℤ) → low ≤ℤ high → z ≤ℤ low → clamp low high z ≡ low
unfolding clamp
clamp_low low high z h k = omega (arith, ints, clamps)

pub clamp_high : (low high z : ℤ) → low ≤ℤ high → high ≤ℤ z → clamp low high z ≡ high
unfolding clamp
clamp_high low high z h k = omega (arith, ints, clamps)

-- a clamp that changes nothing was in the range
pub clamp_fixed : (low high z : ℤ) → low ≤ℤ high → clamp low high z ≡ z → Within low high z
unfolding clamp
clamp_fixed low high z h e = record { above = omega (arith, ints, clamps); below = omega (arith, ints, clamps) }

pub clamp_mono : (low high : ℤ) {a b : ℤ} → a ≤ℤ b → clamp low high a ≤ℤ clamp low high b
unfolding clamp
clamp_mono low high h = omega (arith, ints, clamps)

-- below, within and above
pub clamp_cases : (low high z : ℤ) → low ≤ℤ high → ((z <ℤ low) × (clamp low high z ≡ low)) ⊎ ((Within low high z × (clamp low high z ≡ z)) ⊎ ((high <ℤ z) × (clamp low high z ≡ high)))
unfolding clamp
clamp_cases low high z h = grind (arith, ints)
