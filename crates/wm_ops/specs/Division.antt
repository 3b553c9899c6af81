-- The quotient of two fractions, which has a domain: 0 <= a <= b and b > 0.
use Rattle.std.specs.Prelude.{ℤ, ◌≤ℤ◌, ◌<ℤ◌, pos, Bool, ◌&&◌, not, int_lt, ◌*ℤ◌, if◌then◌else◌}
use Rattle.std.specs.Ordering.{int_eq}
use Rattle.std.specs.Int.{int_div_euclid}
use Rattle.wm_ops.specs.declared.clamping.Clamped.{Clamped}
use Rattle.wm_ops.specs.Clamping.{exact}

-- a and b are in the domain of div_s
unfoldable pub is_quotient : ℤ → ℤ → Bool
is_quotient a b = not (int_lt a (pos 0)) && not (int_lt b a) && int_lt (pos 0) b

-- the same as facts
pub record InQuotient (a b : ℤ) : Type 0 where
  pub natural : pos 0 ≤ℤ a
  pub at_most : a ≤ℤ b
  pub positive : pos 0 <ℤ b

-- the quotient in the domain, as a fraction of 15 bits rounded down; equal numbers give the greatest fraction
unfoldable pub quotient : ℤ → ℤ → ℤ
quotient a b = if int_eq a b then pos 32767 else int_div_euclid (a *ℤ pos 32768) b

abbrev pub div_s_of : ℤ → ℤ → Clamped
div_s_of a b = exact (quotient a b)
