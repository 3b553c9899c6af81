-- Shifts by a count of either sign: to the left with a clamp, to the right rounded down or to the nearest.
use Rattle.std.specs.Prelude.{ℕ, zero, suc, ℤ, pos, negsuc, ◌+ℤ◌, ◌*ℤ◌, ◌≤ℤ◌, ◌<ℤ◌, neg_ℤ, ◌^◌}
use Rattle.wm_numbers.specs.Floor.{floor_shift}
use Rattle.wm_ops.specs.declared.clamping.Clamped.{Clamped}
use Rattle.wm_ops.specs.Clamping.{exact, to16, to32}

-- the number a, shifted to the left by n places
abbrev pub shifted : ℤ → ℕ → ℤ
shifted a n = a *ℤ pos (2 ^ n)

-- the nearest number to a / 2 ^ (n + 1), and the upper one of two: the floor of a / 2 ^ (n + 1) + 1/2
abbrev pub rounded_shift : ℤ → ℕ → ℤ
rounded_shift a n = floor_shift (a +ℤ pos (2 ^ n)) (suc n)

abbrev pub shl_of : ℤ → ℤ → Clamped
shl_of a (pos n) = to16 (shifted a n)
shl_of a (negsuc n) = exact (floor_shift a (suc n))

abbrev pub l_shl_of : ℤ → ℤ → Clamped
l_shl_of a (pos n) = to32 (shifted a n)
l_shl_of a (negsuc n) = exact (floor_shift a (suc n))

-- a shift to the right is one to the left by the opposite count, as a whole number
abbrev pub shr_of : ℤ → ℤ → Clamped
shr_of a n = shl_of a (neg_ℤ n)

abbrev pub l_shr_of : ℤ → ℤ → Clamped
l_shr_of a n = l_shl_of a (neg_ℤ n)

-- a shift to the right by a positive count is rounded to the nearest
abbrev pub shr_r_of : ℤ → ℤ → Clamped
shr_r_of a (pos zero) = shl_of a (pos 0)
shr_r_of a (pos (suc n)) = exact (rounded_shift a n)
shr_r_of a (negsuc n) = shl_of a (pos (suc n))

abbrev pub l_shr_r_of : ℤ → ℤ → Clamped
l_shr_r_of a (pos zero) = l_shl_of a (pos 0)
l_shr_r_of a (pos (suc n)) = exact (rounded_shift a n)
l_shr_r_of a (negsuc n) = l_shl_of a (pos (suc n))

-- q is the nearest whole number to z / 2 ^ n, and the upper one where two are: it is the floor of z / 2 ^ n + 1/2
pub record IsRounded (z : ℤ) (n : ℕ) (q : ℤ) : Type 0 where
  pub below : (pos 2 *ℤ (q *ℤ pos (2 ^ n))) ≤ℤ (pos 2 *ℤ z +ℤ pos (2 ^ n))
  pub above : (pos 2 *ℤ z +ℤ pos (2 ^ n)) <ℤ (pos 2 *ℤ (q *ℤ pos (2 ^ n)) +ℤ pos 2 *ℤ pos (2 ^ n))
