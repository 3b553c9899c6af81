-- Numbers and cells that are put one after another.
use Rattle.std.specs.Prelude.{ℕ, ◌≡◌, ◌<◌, List, map, All, None}
use Rattle.wm_interval.specs.Holds.{Holds}
use Rattle.wm_arrays.specs.declared.summary.Summary.TheVariants.{Range}
use Rattle.wm_domain.specs.declared.shape.Shape.{Shape}
use Rattle.wm_domain.specs.Points.{Point, AllowsCell}
use Rattle.wm_domain.specs.States.{array_count}
use Rattle.wm_flow.specs.declared.action.Given.{Given}
use Rattle.wm_carry.specs.Following.{IsApart}

abbrev pub targets_of : List Given → List ℕ
targets_of given = map (λ (g : Given). g.target) given

abbrev pub AreBelow : ℕ → List Given → Type 0
AreBelow count given = All (λ (g : Given). g.target < count) given

-- each variable has a number of its range
abbrev pub AreHeld : List Given → Point → Type 0
AreHeld given p = All (λ (g : Given). Holds g.range (p.values g.target)) given

-- each array has a cell of its range
abbrev pub AreCells : List Given → Point → Type 0
AreCells given p = All (λ (g : Given). AllowsCell (Range g.range) (p.cells g.target)) given

-- the other arrays have no set cell
pub record AreUnset (shape : Shape) (given : List Given) (p : Point) : Type 0 where
  pub each : (a : ℕ) → a < array_count shape → IsApart (targets_of given) a → p.cells a ≡ None
