-- How many places a number can be shifted to the left before its sign bit would change.
use Rattle.std.specs.Prelude.{ℕ, zero, suc, ◌+◌, ◌*◌, ◌^◌, ◌≤◌, ◌<◌, ℤ, pos, negsuc, if◌then◌else◌, nat_le}
use Rattle.wm_ops.specs.declared.clamping.Clamped.{Clamped}
use Rattle.wm_ops.specs.Clamping.{exact}

-- the number of doublings, at most `room`, that take n to the limit or above
unfoldable pub doublings : ℕ → ℕ → ℕ → ℕ
doublings zero limit n = 0
doublings (suc room) limit n = if nat_le limit n then 0 else suc (doublings room limit (2 * n))

-- z itself, or -z - 1 for a negative z
abbrev pub folded : ℤ → ℕ
folded (pos n) = n
folded (negsuc n) = n

-- the norm in a type whose numbers are below 2 ^ (places + 1) in size: the least c with m * 2 ^ c at least 2 ^ places,
-- where m is z for a positive z and -z - 1 for a negative one; 0 at 0, and places + 1 at -1
abbrev pub norm_in : ℕ → ℤ → ℕ
norm_in places (pos zero) = 0
norm_in places (pos (suc n)) = doublings places (2 ^ places) (suc n)
norm_in places (negsuc zero) = places + 1
norm_in places (negsuc (suc n)) = doublings places (2 ^ places) (suc n)

abbrev pub norm_s_of : ℤ → Clamped
norm_s_of a = exact (pos (norm_in 14 a))

abbrev pub norm_l_of : ℤ → Clamped
norm_l_of a = exact (pos (norm_in 30 a))

-- c is the least number of doublings that take n to the limit
pub record IsLeastShift (limit n c : ℕ) : Type 0 where
  pub reaches : limit ≤ n * 2 ^ c
  pub least : (d : ℕ) → d < c → n * 2 ^ d < limit
