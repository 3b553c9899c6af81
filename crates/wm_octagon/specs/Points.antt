-- The integer points that meet the bounds of a list, and what it means that the bounds are attained.
use Rattle.std.specs.Prelude.{ℕ, ◌≡◌, ◌<◌, ◌*◌, ◌/◌, ◌%◌, nat_eq, ℤ, neg_ℤ, ◌-ℤ◌, ◌≤ℤ◌, List, if◌then◌else◌}
use Rattle.wm_octagon.specs.Layout.{row_len, entry}

-- the value of side k where x gives each variable its value
unfoldable pub side_value : (ℕ → ℤ) → ℕ → ℤ
side_value x k = if nat_eq (k % 2) 0 then x (k / 2) else neg_ℤ (x (k / 2))

-- x meets each bound of the list over n variables: the point is one of the list's points
pub record IsPoint (n : ℕ) (xs : List ℤ) (x : ℕ → ℤ) : Type 0 where
  pub meets : (k l : ℕ) → k < 2 * n → l < row_len k → (side_value x l -ℤ side_value x k) ≤ℤ entry xs k l

-- some point of those that P tells attains the number b on the difference of side l and side k
pub record Attains (P : (ℕ → ℤ) → Type 0) (k l : ℕ) (b : ℤ) : Type 0 where
  pub x : ℕ → ℤ
  pub is : P x
  pub gives : side_value x l -ℤ side_value x k ≡ b

-- the list bounds the least octagon that holds the points that P tells, of which there is one: each meets all bounds, and
-- each bound is attained by one
pub record LeastOctagon (n : ℕ) (P : (ℕ → ℤ) → Type 0) (xs : List ℤ) : Type 0 where
  pub some : ℕ → ℤ
  pub some_is : P some
  pub holds : (x : ℕ → ℤ) → P x → IsPoint n xs x
  pub attained : (k l : ℕ) → k < 2 * n → l < row_len k → Attains P k l (entry xs k l)

-- the list has a point, and each of its bounds is attained by one
pub record IsTight (n : ℕ) (xs : List ℤ) : Type 0 where
  pub point : ℕ → ℤ
  pub is_point : IsPoint n xs point
  pub attained : (k l : ℕ) → k < 2 * n → l < row_len k → Attains (IsPoint n xs) k l (entry xs k l)

-- a point of the list at which side j less side i is at most c
pub record WithBound (n : ℕ) (xs : List ℤ) (i j : ℕ) (c : ℤ) (x : ℕ → ℤ) : Type 0 where
  pub point : IsPoint n xs x
  pub bounded : (side_value x j -ℤ side_value x i) ≤ℤ c
