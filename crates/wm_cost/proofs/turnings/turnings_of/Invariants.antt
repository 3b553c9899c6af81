use Rattle.std.proofs.Common.{◌≡◌, ◌++◌, drop}
use Rattle.wm_cost.specs.Turnings.{turnings_from}
use Rattle.wm_cost.proofs.turnings.turnings_of.Given as goal

abbrev pub invariant-loop-number : goal.invariant-loop-number
invariant-loop-number l = l.turnings.items ++ turnings_from l.edges l.turns l.number (drop l.number l.heads) ≡ turnings_from l.edges l.turns 0 l.heads
