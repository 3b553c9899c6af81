-- How the bounds between the sides of n variables lie in one list of 2n(n + 1) numbers.
-- Side 2v is the variable v and side 2v + 1 is -v. The bound of l less k is that of -k less -l, so one of the two
-- is kept: row k has the columns from 0 to the greater of k and its opposite.
use Rattle.std.specs.Prelude.{ℕ, suc, zero, ◌+◌, ◌-◌, ◌*◌, ◌/◌, ◌%◌, ℤ, pos, List, [], ◌++◌, ◌≡◌, ◌<◌, ◌≤◌, slice_index_or, nat_lt, map, if◌then◌else◌}
use Rattle.std.specs.List.{range_with_len}

-- the side of the same variable with the other sign
abbrev pub opposite : ℕ → ℕ
opposite k = k + 1 - 2 * (k % 2)

-- how many columns row k has
abbrev pub row_len : ℕ → ℕ
row_len k = k + 2 - k % 2

-- where row k begins
abbrev pub row_start : ℕ → ℕ
row_start k = (k + 1) * (k + 1) / 2

-- the number at row k and column l
abbrev pub entry : List ℤ → ℕ → ℕ → ℤ
entry xs k l = slice_index_or xs (l + row_start k) (pos 0)

-- where the bound of side l less side k stands, for any two sides: at row k, or at row -l
unfoldable pub place : ℕ → ℕ → ℕ
place k l = if nat_lt l (row_len k) then l + row_start k else opposite k + row_start (opposite l)

-- the bound of side l less side k
unfoldable pub bound : List ℤ → ℕ → ℕ → ℤ
bound xs k l = slice_index_or xs (place k l) (pos 0)

-- the first rows of the list with f k l at row k and column l
abbrev pub table : ℕ → (ℕ → ℕ → ℤ) → List ℤ
table zero f = []
table (suc k) f = table k f ++ map (f k) (range_with_len 0 (row_len k))

-- the columns of each row that a change may change lie in the row, and it changes nothing beside them
pub record IsBeside (n : ℕ) (value : ℕ → ℕ → ℤ → ℤ) (begin columns : ℕ → ℕ) (xs : List ℤ) : Type 0 where
  pub inside : (k : ℕ) → k < n → begin k + columns k ≤ row_len k
  pub before : (k l : ℕ) → k < n → l < begin k → value k l (entry xs k l) ≡ entry xs k l
  pub after : (k l : ℕ) → k < n → begin k + columns k ≤ l → l < row_len k → value k l (entry xs k l) ≡ entry xs k l
