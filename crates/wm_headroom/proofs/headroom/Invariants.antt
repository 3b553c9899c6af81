-- The operator fails with each of the shifts that were tried.
use Rattle.std.proofs.Common.{ℕ, ◌<◌}
use Rattle.wm_headroom.specs.Headroom.{FailsAt}
use Rattle.wm_headroom.proofs.headroom.Given as goal

abbrev pub invariant-loop-places : goal.invariant-loop-places
invariant-loop-places l = (fewer : ℕ) → fewer < l.places → FailsAt l.op l.boxes fewer
