-- The halves of a number of 32 bits, numbers put into a half, and rounding to the upper half.
use Rattle.std.specs.Prelude.{ℤ, ◌≡◌, pos, ◌+ℤ◌, ◌-ℤ◌, ◌*ℤ◌}
use Rattle.wm_numbers.specs.Within.{IsWord16}
use Rattle.wm_numbers.specs.Floor.{floor_shift}
use Rattle.wm_ops.specs.declared.clamping.Clamped.{Clamped}
use Rattle.wm_ops.specs.Clamping.{exact, and_then}
use Rattle.wm_ops.specs.Sums.{l_add_of}
use Rattle.wm_ops.specs.Products.{l_mac_of, l_msu_of}

-- the low 16 bits of z as a signed number: z less the multiple of 65536 that leaves -32768 to 32767
unfoldable pub low_half : ℤ → ℤ
low_half z = z -ℤ (floor_shift (z +ℤ pos 32768) 16 *ℤ pos 65536)

abbrev pub extract_h_of : ℤ → Clamped
extract_h_of a = exact (floor_shift a 16)

abbrev pub extract_l_of : ℤ → Clamped
extract_l_of a = exact (low_half a)

abbrev pub l_deposit_h_of : ℤ → Clamped
l_deposit_h_of a = exact (a *ℤ pos 65536)

abbrev pub l_deposit_l_of : ℤ → Clamped
l_deposit_l_of a = exact a

-- half a unit of the upper half is added before the lower half is cut off
abbrev pub round_of : ℤ → Clamped
round_of a = and_then (l_add_of a (pos 32768)) extract_h_of

abbrev pub mac_r_of : ℤ → ℤ → ℤ → Clamped
mac_r_of a b c = and_then (l_mac_of a b c) round_of

abbrev pub msu_r_of : ℤ → ℤ → ℤ → Clamped
msu_r_of a b c = and_then (l_msu_of a b c) round_of

-- w is the signed number of 16 bits that differs from z by a multiple of 65536
pub record IsLowHalf (z w : ℤ) : Type 0 where
  pub within : IsWord16 w
  pub multiple : ℤ
  pub differs : z ≡ w +ℤ multiple *ℤ pos 65536
