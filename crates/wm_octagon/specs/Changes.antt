-- Changes of all bounds at once, and the points that they are to leave.
use Rattle.std.specs.Prelude.{ℕ, ◌≡◌, ◌≢◌, ◌+◌, ◌*◌, ◌/◌, nat_eq, ◌||◌, nat_lt, ℤ, pos, neg_ℤ, ◌+ℤ◌, List, if◌then◌else◌}
use Rattle.wm_numbers.specs.Within.{Within}
use Rattle.wm_octagon.specs.Layout.{opposite, row_len}
use Rattle.wm_octagon.specs.Points.{side_value, IsPoint}

-- two different sides that are known apart from each other alone
abbrev pub apart : (ℕ → ℤ) → ℕ → ℕ → ℤ
apart tops k l = if nat_eq k l then pos 0 else tops (opposite k) +ℤ tops l

-- the bounds after variable v is set free: `tops` has the greatest value of each side
abbrev pub loosened : ℕ → (ℕ → ℤ) → (ℕ → ℕ → ℤ) → ℕ → ℕ → ℤ
loosened v tops m k l = if nat_eq (k / 2) v || nat_eq (l / 2) v then apart tops k l else m k l

-- the old side that side k is measured by, where variable v gets the value of side s
abbrev pub source_of : ℕ → ℕ → ℕ → ℕ
source_of v s k = if nat_eq k (2 * v) then s else (if nat_eq k (2 * v + 1) then opposite s else k)

-- the most that side k then differs from that old side, where v gets more by a number from `low` to `high`
abbrev pub rise : ℕ → ℤ → ℤ → ℕ → ℤ
rise v low high k = if nat_eq k (2 * v) then high else (if nat_eq k (2 * v + 1) then neg_ℤ low else pos 0)

-- the bounds after variable v got the value of side s and a number from `low` to `high`
abbrev pub assigned : ℕ → ℕ → ℤ → ℤ → (ℕ → ℕ → ℤ) → ℕ → ℕ → ℤ
assigned v s low high m k l =
    if nat_eq k l then pos 0 else m (source_of v s k) (source_of v s l) +ℤ (rise v low high (opposite k) +ℤ rise v low high l)

-- x is a point of the list, but for variable v, which has any number from `low` to `high`
pub record Forgotten (n : ℕ) (xs : List ℤ) (v : ℕ) (low high : ℤ) (x : ℕ → ℤ) : Type 0 where
  pub was : ℕ → ℤ
  pub point : IsPoint n xs was
  pub others : (w : ℕ) → w ≢ v → x w ≡ was w
  pub value : Within low high (x v)

-- x is a point of the list, but for variable v, which has the value of side s there and a number from `low` to `high`
pub record Assigned (n : ℕ) (xs : List ℤ) (v s : ℕ) (low high : ℤ) (x : ℕ → ℤ) : Type 0 where
  pub was : ℕ → ℤ
  pub point : IsPoint n xs was
  pub others : (w : ℕ) → w ≢ v → x w ≡ was w
  pub more : ℤ
  pub more_in : Within low high more
  pub value : x v ≡ side_value was s +ℤ more

-- the columns of row k that a change of variable v alone may change: those of the variable in later rows, all of its own
-- rows, and none before; the first of them, and how many there are
abbrev pub begin_beside : ℕ → ℕ → ℕ
begin_beside v k = if nat_lt v (k / 2) then 2 * v else 0

abbrev pub columns_beside : ℕ → ℕ → ℕ
columns_beside v k = if nat_lt v (k / 2) then 2 else (if nat_lt (k / 2) v then 0 else row_len k)
