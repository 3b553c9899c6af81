-- Products, with and without rounding and doubling, and products added to a sum or taken from it.
use Rattle.std.specs.Prelude.{ℤ, pos, ◌+ℤ◌, ◌*ℤ◌}
use Rattle.wm_numbers.specs.Floor.{floor_shift}
use Rattle.wm_ops.specs.declared.clamping.Clamped.{Clamped}
use Rattle.wm_ops.specs.Clamping.{exact, to16, to32, and_then}
use Rattle.wm_ops.specs.Sums.{l_add_of, l_sub_of}

-- the product of two fractions of 15 bits, rounded down
abbrev pub mult_of : ℤ → ℤ → Clamped
mult_of a b = to16 (floor_shift (a *ℤ b) 15)

-- the same, rounded to the nearest and upwards from the middle
abbrev pub mult_r_of : ℤ → ℤ → Clamped
mult_r_of a b = to16 (floor_shift ((a *ℤ b) +ℤ pos 16384) 15)

-- twice the product
abbrev pub l_mult_of : ℤ → ℤ → Clamped
l_mult_of a b = to32 (pos 2 *ℤ (a *ℤ b))

-- the product itself
abbrev pub l_mult0_of : ℤ → ℤ → Clamped
l_mult0_of a b = exact (a *ℤ b)

abbrev pub l_mac_of : ℤ → ℤ → ℤ → Clamped
l_mac_of a b c = and_then (l_mult_of b c) (λ product. l_add_of a product)

abbrev pub l_msu_of : ℤ → ℤ → ℤ → Clamped
l_msu_of a b c = and_then (l_mult_of b c) (λ product. l_sub_of a product)

abbrev pub l_mac0_of : ℤ → ℤ → ℤ → Clamped
l_mac0_of a b c = and_then (l_mult0_of b c) (λ product. l_add_of a product)

abbrev pub l_msu0_of : ℤ → ℤ → ℤ → Clamped
l_msu0_of a b c = and_then (l_mult0_of b c) (λ product. l_sub_of a product)
