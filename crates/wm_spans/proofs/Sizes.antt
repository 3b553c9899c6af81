-- Numbers below 2^50 in size are read back as they are.
use Rattle.std.proofs.Common.{◌≡◌, ◌<◌, ◌^◌, ℤ, ◌-ℤ◌, neg_ℤ, Bool, true, false, if◌then◌else◌, subst, sym, arith, to_z, of_z, w64}
use Rattle.std.specs.Prelude.{unsigned_abs}
use Rattle.std.proofs.lemmas.Int.{ints}
use Rattle.wm_interval.specs.declared.Interval.{Interval}
use Rattle.wm_interval.specs.Holds.{SizesBelow}
use Rattle.wm_domain.specs.Points.{IsNarrow}

pub read_small : (z : ℤ) → unsigned_abs z < 2 ^ 50 → to_z w64 (of_z w64 z) ≡ z
read_small z h = omega (arith, ints)

-- a range of 32 bits, or the negatives of its numbers
pub turned_size : (x r : Interval) (b : Bool) → IsNarrow x → r.low ≡ (if b then neg_ℤ x.high else x.low) → r.high ≡ (if b then neg_ℤ x.low else x.high) → SizesBelow (2 ^ 32) r
turned_size x r true n e f = record { low_size = omega (arith, ints, n.high_fits.above, n.high_fits.below, e); high_size = omega (arith, ints, n.low_fits.above, n.low_fits.below, f) }
turned_size x r false n e f = record { low_size = omega (arith, ints, n.low_fits.above, n.low_fits.below, e); high_size = omega (arith, ints, n.high_fits.above, n.high_fits.below, f) }

pub sub_sizes : (r x c : Interval) → SizesBelow (2 ^ 60) r → SizesBelow (2 ^ 32) x → c.low ≡ r.low -ℤ x.high → c.high ≡ r.high -ℤ x.low → SizesBelow (2 ^ 62) c
sub_sizes r x c h k e f = record { low_size = omega (arith, ints, h.low_size, k.high_size, e); high_size = omega (arith, ints, h.high_size, k.low_size, f) }
