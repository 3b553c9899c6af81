-- Sizes of what the formulas compute on the way.
use Rattle.std.proofs.Common.{arith, pos, negsuc, ℤ, ◌*ℤ◌, FitsSigned, w64, to_z, of_z}
use Rattle.std.proofs.lemmas.Int.{ints, to_z-of_z}
use Rattle.wm_numbers.specs.Within.{Within, IsWord16}
use Rattle.wm_numbers.proofs.Products.{mul_within}

-- the product of two numbers of 16 bits is at most 2^30 in size
pub product_small : (a b : ℤ) → IsWord16 a → IsWord16 b → Within (negsuc 1073741823) (pos 1073741824) (a *ℤ b)
product_small a b h k =
    mul_within a b 32768 32768 (record { above = h.above; below = omega (arith, ints, h.below) })
    (record { above = k.above; below = omega (arith, ints, k.below) })

-- the same, as the code computes it
pub product_passed :
    (a b : ℤ) → FitsSigned w64 a → FitsSigned w64 b → IsWord16 a → IsWord16 b →
    Within (negsuc 1073741823) (pos 1073741824) (to_z w64 (of_z w64 (to_z w64 (of_z w64 a) *ℤ to_z w64 (of_z w64 b))))
product_passed a b f g h k =
    let small = product_small a b h k in
    rw (to_z-of_z w64 a f, to_z-of_z w64 b g, to_z-of_z w64 (a *ℤ b) (omega (arith, ints, small.above, small.below))) small
