-- The bounds after a variable got the value of a side and a number of an interval, read from two rows of the old ones.
use Rattle.std.specs.Prelude.{ℕ, ◌≡◌, ◌≢◌, ◌+◌, ◌*◌, nat_eq, ℤ, pos, negsuc, ◌+ℤ◌, if◌then◌else◌}
use Rattle.wm_numbers.specs.Within.{Within}
use Rattle.wm_octagon.specs.Layout.{opposite}
use Rattle.wm_octagon.specs.Changes.{source_of, rise}
use Rattle.wm_octagon.specs.Points.{side_value}
use Rattle.wm_octagon.specs.View.{OctagonView, Holds}

-- the old bound of the sides that k and l are measured by: from the row of s, from that of -s, or the old one itself
abbrev pub read_of : ℕ → ℕ → (ℕ → ℤ) → (ℕ → ℤ) → ℤ → ℕ → ℕ → ℤ
read_of v s row mirror b k l =
    if nat_eq k (2 * v) then row (source_of v s l) else
    (if nat_eq k (2 * v + 1) then mirror (source_of v s l) else
    (if nat_eq l (2 * v) then mirror (opposite k) else (if nat_eq l (2 * v + 1) then row (opposite k) else b)))

-- a number of at most 2^40 in size
abbrev pub IsLow : ℤ → Type 0
IsLow z = Within (negsuc 1099511627775) (pos 1099511627776) z

-- the new bound
abbrev pub risen : ℕ → ℕ → ℤ → ℤ → (ℕ → ℤ) → (ℕ → ℤ) → ℤ → ℕ → ℕ → ℤ
risen v s low high row mirror b k l =
    if nat_eq k l then pos 0 else read_of v s row mirror b k l +ℤ (rise v low high (opposite k) +ℤ rise v low high l)

-- a point of the octagon, but for variable v, which has the value of side s there and a number between two ends
pub record AssignedOf (o : OctagonView) (v s : ℕ) (low high : ℤ) (x : ℕ → ℤ) : Type 0 where
  pub was : ℕ → ℤ
  pub point : Holds o was
  pub others : (w : ℕ) → w ≢ v → x w ≡ was w
  pub more : ℤ
  pub more_in : Within low high more
  pub value : x v ≡ side_value was s +ℤ more
