-- Points that take their numbers from those of another state.
use Rattle.std.specs.Prelude.{ℕ, ◌≡◌, ◌<◌, List, length, slice_index_or, Option, Some, None}
use Rattle.wm_domain.specs.Points.{Point}
use Rattle.wm_domain.specs.Changes.{IsPicked}
use Rattle.wm_flow.specs.declared.action.Returned.{Returned}

-- variable v has the number of the picked one at a point there; any number where none is picked
pub record TakenAt (There : Point → Type 0) (v : ℕ) (pick : Option ℕ) (p : Point) : Type 0 where
  pub call : Point
  pub is : There call
  pub own : IsPicked pick call (p.values v)

-- so has each variable, all at one point
pub record TakenFrom (There : Point → Type 0) (picks : List (Option ℕ)) (p : Point) : Type 0 where
  pub call : Point
  pub is : There call
  pub own : (v : ℕ) → v < length picks → IsPicked (slice_index_or picks v None) call (p.values v)

-- so have two variables
pub record TakenBoth (There : Point → Type 0) (v w a b : ℕ) (p : Point) : Type 0 where
  pub call : Point
  pub is : There call
  pub first : p.values v ≡ call.values a
  pub second : p.values w ≡ call.values b

-- a picked variable is one of so many
abbrev pub IsPickBelow : ℕ → Option ℕ → Type 0
IsPickBelow n None = Unit {0}
IsPickBelow n (Some w) = w < n

-- the result stands among so many variables, and goes to one of so many
abbrev pub IsResult : (targets sources : ℕ) → Option Returned → Type 0
IsResult targets sources None = Unit {0}
IsResult targets sources (Some it) = (it.target < targets) × (it.at_exit < sources)
