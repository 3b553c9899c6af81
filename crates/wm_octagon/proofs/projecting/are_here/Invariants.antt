use Rattle.std.proofs.Common.{◌≡◌, ℕ, ◌<◌, Some}
use Rattle.wm_octagon.specs.Projecting.{picked}
use Rattle.wm_octagon.proofs.projecting.are_here.Given as goal

abbrev pub invariant-loop-k : goal.invariant-loop-k
invariant-loop-k l = (v : ℕ) → v < l.k → picked l.keep v ≡ Some v
