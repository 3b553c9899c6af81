use Rattle.std.proofs.Common.{◌≡◌}
use Rattle.wm_uses.specs.Width.{widest}
use Rattle.wm_uses.proofs.room.width.Given as goal

abbrev pub invariant-loop-node : goal.invariant-loop-node
invariant-loop-node l = l.most ≡ widest l.last l.node
