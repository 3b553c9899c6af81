-- What a half table is seen as, and what always holds of its numbers.
use Rattle.std.specs.Prelude.{ℕ, ◌≡◌, ◌*◌, ◌≤◌, ℤ, pos, negsuc, List, length, slice_index_or}
use Rattle.wm_numbers.specs.Within.{Within}
use Rattle.wm_octagon.specs.Layout.{row_start}

-- the number of variables, and the bounds row by row
pub record HalfTable : Type 0 where
  pub variables : ℕ
  pub bounds : List ℤ

-- a number of at most 2^42 in size
abbrev pub IsSmall : ℤ → Type 0
IsSmall z = Within (negsuc 4398046511103) (pos 4398046511104) z

-- at most 32 variables, a number for each place of the half table, and each number small
pub record IsWhole (n : ℕ) (xs : List ℤ) : Type 0 where
  pub few : n ≤ 32
  pub long : length xs ≡ row_start (2 * n)
  pub small : (i : ℕ) → IsSmall (slice_index_or xs i (pos 0))
