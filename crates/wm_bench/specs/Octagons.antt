-- What the octagons that are timed are drawn from.
use Rattle.std.specs.Prelude.{ℕ, ◌≡◌, ◌≢◌, ◌<◌, ◌≤◌, ◌^◌, List, length, All, unsigned_abs}
use Rattle.wm_bench.specs.declared.octagons.Bound.{Bound}

-- a bound on two different variables of n
pub record IsOf (n : ℕ) (b : Bound) : Type 0 where
  pub first : b.a.variable < n
  pub second : b.b.variable < n
  pub apart : b.a.variable ≢ b.b.variable
  pub size : unsigned_abs b.most < 2 ^ 40
