-- A flag that keeps its number or, where it may, becomes 1.
use Rattle.std.specs.Prelude.{ℕ, ◌≡◌, ◌⊎◌, pos}
use Rattle.wm_domain.specs.Points.{Point, SameBut}

pub record Raised (Has : Point → Type 0) (May : Type 0) (v : ℕ) (p : Point) : Type 0 where
  pub was : Point
  pub point : Has was
  pub others : SameBut v was p
  pub value : (p.values v ≡ was.values v) ⊎ (May × (p.values v ≡ pos 1))
