use Rattle.std.proofs.Common.{◌≡◌, ◌++◌, drop}
use Rattle.wm_ways.specs.Sweeps.{ending_in}
use Rattle.wm_ways.proofs.sweep.ending_in.Given as goal

-- the marks so far, and those of what is left
abbrev pub invariant-loop-mark : goal.invariant-loop-mark
invariant-loop-mark l = l.best.items ++ ending_in (drop l.mark-index l.ends) ≡ ending_in l.ends
