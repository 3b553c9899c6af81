-- Turns of loops: each counter grows by its step, and sticks at the greatest number of 32 bits.
use Rattle.std.specs.Prelude.{ℕ, ◌≡◌, ℤ, pos, ◌+ℤ◌, ◌<ℤ◌, ◌≤ℤ◌, List, [], ◌∷◌}
use Rattle.std.specs.Int.{int_min}
use Rattle.wm_domain.specs.declared.shape.Shape.{Shape}
use Rattle.wm_domain.specs.Points.{Point, SameBut}
use Rattle.wm_domain.specs.States.{InShape}
use Rattle.wm_flow.specs.declared.action.Growth.{Growth}

abbrev pub most : ℤ
most = pos 2147483647

abbrev pub grown : ℤ → ℕ → ℤ
grown z step = int_min most (z +ℤ pos step)

-- the counter has grown by its step or stuck
pub record Grown (shape : Shape) (Has : Point → Type 0) (it : Growth) (p : Point) : Type 0 where
  pub was : Point
  pub point : Has was
  pub others : SameBut it.variable was p
  pub value : p.values it.variable ≡ grown (was.values it.variable) it.step
  pub inside : InShape shape p

-- it has grown by its whole step
pub record Whole (Has : Point → Type 0) (it : Growth) (p : Point) : Type 0 where
  pub was : Point
  pub point : Has was
  pub others : SameBut it.variable was p
  pub fits : (was.values it.variable +ℤ pos it.step) ≤ℤ most
  pub value : p.values it.variable ≡ was.values it.variable +ℤ pos it.step

-- it has stuck
pub record Stuck (Has : Point → Type 0) (it : Growth) (p : Point) : Type 0 where
  pub was : Point
  pub point : Has was
  pub others : SameBut it.variable was p
  pub past : most <ℤ (was.values it.variable +ℤ pos it.step)
  pub value : p.values it.variable ≡ most

-- all counters, one after another
abbrev pub AllGrown : Shape → (Point → Type 0) → List Growth → Point → Type 0
AllGrown shape Has [] p = Has p
AllGrown shape Has (it ∷ rest) p = AllGrown shape (Grown shape Has it) rest p
