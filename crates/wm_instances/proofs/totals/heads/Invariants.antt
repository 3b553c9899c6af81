use Rattle.std.proofs.Common.{◌≡◌, drop}
use Rattle.wm_instances.specs.Totals.{heads_from}
use Rattle.wm_instances.proofs.totals.heads.Given as goal

abbrev pub invariant-loop-instance : goal.invariant-loop-instance
invariant-loop-instance l = heads_from l.sum l.loops (drop l.instance-index l.instances) ≡ heads_from 1 l.loops l.instances
