use Rattle.std.proofs.Common.{◌≡◌, ◌++◌, drop}
use Rattle.wm_bounds.specs.Parts.{firsts_from}
use Rattle.wm_bounds.proofs.parts.firsts_called.Given as goal

abbrev pub invariant-loop-number : goal.invariant-loop-number
invariant-loop-number l = l.firsts.items ++ firsts_from l.fn.frame l.number (drop l.number l.instances) ≡ firsts_from l.fn.frame 0 l.instances
