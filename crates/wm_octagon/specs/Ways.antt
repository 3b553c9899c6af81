-- The arrays by which one more bound is brought up to date in a single pass.
use Rattle.std.specs.Prelude.{ℕ, ◌*◌, ◌<◌, ◌≤◌, ◌≤ℤ◌, ℤ, pos, ◌+ℤ◌, List, slice_index_or}
use Rattle.std.specs.Int.{int_min}
use Rattle.wm_octagon.specs.Layout.{opposite, row_len, bound}
use Rattle.wm_octagon.specs.Closing.{top, through, with_bound}
use Rattle.wm_octagon.specs.HalfTable.{IsSmall}
use Rattle.wm_octagon.specs.Medium.{IsMedium, Filled}

-- the numbers of a list, at each place
abbrev pub at : List ℤ → ℕ → ℤ
at xs k = slice_index_or xs k (pos 0)

-- the rows from which the new bound of side j less side i can be gone on: that of j and that of -i
pub record AreRows (n : ℕ) (xs : List ℤ) (i j : ℕ) (from_j from_i : List ℤ) : Type 0 where
  pub j_row : Filled IsSmall (bound xs j) (2 * n) from_j
  pub i_row : Filled IsSmall (bound xs (opposite i)) (2 * n) from_i

-- the ways from each side that end with the new bound, in j or in -i
pub record AreWays (n : ℕ) (xs : List ℤ) (i j : ℕ) (c : ℤ) (to_j to_i : List ℤ) : Type 0 where
  pub j_ways : Filled IsMedium (through (bound xs (opposite i)) (bound xs j) (c +ℤ c +ℤ bound xs (opposite i) i) c) (2 * n) to_j
  pub i_ways : Filled IsMedium (through (bound xs j) (bound xs (opposite i)) (c +ℤ c +ℤ bound xs j (opposite j)) c) (2 * n) to_i

-- the greatest value that the new bounds leave each side
abbrev pub AreTops : ℕ → List ℤ → ℕ → ℕ → ℤ → List ℤ → Type 0
AreTops n xs i j c tops = Filled IsMedium (top (with_bound (bound xs) i j c)) (2 * n) tops

-- the least of an old bound of l less k and of the ways from k to l that end with the new bound in j or in -i
abbrev pub least_way : List ℤ → List ℤ → List ℤ → List ℤ → ℤ → ℕ → ℕ → ℤ
least_way to_j from_j to_i from_i b k l = int_min b (int_min (at to_j k +ℤ at from_j l) (at to_i k +ℤ at from_i l))

-- all these numbers are so small that their sums fit
pub record AreSized (from_j from_i to_j to_i tops : List ℤ) : Type 0 where
  pub j_row : (k : ℕ) → IsSmall (at from_j k)
  pub i_row : (k : ℕ) → IsSmall (at from_i k)
  pub j_ways : (k : ℕ) → IsMedium (at to_j k)
  pub i_ways : (k : ℕ) → IsMedium (at to_i k)
  pub sides : (k : ℕ) → IsMedium (at tops k)

-- each number of the list is small
pub record AllSmall (xs : List ℤ) : Type 0 where
  pub each : (k : ℕ) → IsSmall (at xs k)

-- each row begins to change at one of its columns or at its end
abbrev pub BeginIn : List ℕ → Type 0
BeginIn begins = (k : ℕ) → slice_index_or begins k 0 ≤ row_len k

-- nothing changes the bound of l less k: no way from k that ends with the new bound in j or in -i is shorter than what is
-- known, and the greatest values of -k and l stand before the first that is lowered
pub record IsUnmoved (m : ℕ → ℕ → ℤ) (j i : ℕ) (to_j to_i : ℤ) (lowered k l : ℕ) : Type 0 where
  pub into_j : m k j ≤ℤ to_j
  pub into_i : m k i ≤ℤ to_i
  pub back_in : opposite k < lowered
  pub column_in : l < lowered
