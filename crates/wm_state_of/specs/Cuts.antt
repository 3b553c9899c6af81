-- Points that are left of others.
use Rattle.wm_domain.specs.Points.{Point}

-- the new points are those of the old ones at which the fact holds
pub record Cut (Old New Fact : Point → Type 0) : Type 0 where
  pub fewer : (p : Point) → New p → Old p
  pub meets : (p : Point) → New p → Fact p
  pub kept : (p : Point) → Old p → Fact p → New p
