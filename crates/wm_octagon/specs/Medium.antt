-- Numbers on the way to a bound: so small that none of their sums overflows.
use Rattle.std.specs.Prelude.{ℕ, ◌≡◌, ◌<◌, ℤ, pos, negsuc, List, slice_index_or}
use Rattle.wm_numbers.specs.Within.{Within}

-- a number of at most 2^46 in size
abbrev pub IsMedium : ℤ → Type 0
IsMedium z = Within (negsuc 70368744177663) (pos 70368744177664) z

-- a number of at most 2^44 in size
abbrev pub IsRound : ℤ → Type 0
IsRound z = Within (negsuc 17592186044415) (pos 17592186044416) z

-- the numbers of the list begin with f 0, f 1 and so on, n of them, and P holds of all
pub record Filled (P : ℤ → Type 0) (f : ℕ → ℤ) (n : ℕ) (xs : List ℤ) : Type 0 where
  pub done : (k : ℕ) → k < n → slice_index_or xs k (pos 0) ≡ f k
  pub sized : (k : ℕ) → P (slice_index_or xs k (pos 0))
