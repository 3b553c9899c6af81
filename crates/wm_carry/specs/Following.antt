-- What the variables and arrays of the next node have from those of the node before.
use Rattle.std.specs.Prelude.{ℕ, ◌≡◌, ◌≢◌, ◌+◌, ◌-◌, ◌<◌, ◌≤◌, ◌^◌, nat_lt, if◌then◌else◌, ℤ, List, [], ◌∷◌, length, Option, Some, None}
use Rattle.wm_domain.specs.declared.shape.Shape.{Shape}
use Rattle.wm_domain.specs.Points.{Point, range_at}
use Rattle.wm_domain.specs.States.{IsShape, variables_of, count_of, array_count}

-- the group, the singles and the arrays of the two nodes are paired each by place
abbrev pub origin_in : (first count : ℕ) → (k : ℕ) → Option ℕ
origin_in first count k = if nat_lt k count then Some (first + k) else None

unfoldable pub origin : Shape → Shape → ℕ → Option ℕ
origin source target v =
    if nat_lt v (length target.group)
    then origin_in 0 (length source.group) v
    else origin_in (length source.group) (length source.singles) (v - length target.group)

unfoldable pub array_origin : Shape → ℕ → Option ℕ
array_origin source a = origin_in 0 (array_count source) a

-- The shapes of two nodes between which a state is carried: what is paired has one full range.
pub record IsWay (source target : Shape) : Type 0 where
  pub source_shape : IsShape source
  pub target_shape : IsShape target
  pub few : length source.group + length source.singles < 2 ^ 32
  pub few_arrays : array_count source < 2 ^ 32
  pub long : length target.group + length target.singles < 2 ^ 32
  pub alike : (v w : ℕ) → v < count_of target → origin source target v ≡ Some w → range_at (variables_of target) v ≡ range_at (variables_of source) w
  pub arrays_alike : (a : ℕ) → a < array_count target → a < array_count source → range_at target.arrays a ≡ range_at source.arrays a

-- the number of the variable from which it comes; any number where there is none
abbrev pub Comes : Point → Option ℕ → ℤ → Type 0
Comes was None z = Unit {0}
Comes was (Some w) z = z ≡ was.values w

-- none of some numbers
abbrev pub IsApart : List ℕ → ℕ → Type 0
IsApart [] v = Unit {0}
IsApart (x ∷ rest) v = (v ≢ x) × IsApart rest v

-- every variable but some keeps its number
pub record Follows (source target : Shape) (changed : List ℕ) (was p : Point) : Type 0 where
  pub numbers : (v : ℕ) → v < count_of target → IsApart changed v → Comes was (origin source target v) (p.values v)

-- every array but some keeps its cell; one that only the next node has is unset
pub record FollowsCells (source target : Shape) (changed : List ℕ) (was p : Point) : Type 0 where
  pub kept : (a : ℕ) → a < array_count target → a < array_count source → IsApart changed a → p.cells a ≡ was.cells a
  pub new : (a : ℕ) → a < array_count target → array_count source ≤ a → IsApart changed a → p.cells a ≡ None

-- a point of the state and what follows it, but for some variables and some arrays
pub record Carried (source target : Shape) (Has : Point → Type 0) (variables arrays : List ℕ) (was p : Point) : Type 0 where
  pub point : Has was
  pub numbers : Follows source target variables was p
  pub cells : FollowsCells source target arrays was p

-- the points that follow one of the state so
pub record Moved (source target : Shape) (Has : Point → Type 0) (variables arrays : List ℕ) (p : Point) : Type 0 where
  pub was : Point
  pub carried : Carried source target Has variables arrays was p
