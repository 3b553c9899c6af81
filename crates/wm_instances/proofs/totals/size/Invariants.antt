use Rattle.std.proofs.Common.{◌≡◌, drop}
use Rattle.wm_instances.specs.Totals.{size_from}
use Rattle.wm_instances.proofs.totals.size.Given as goal

abbrev pub invariant-loop-instance : goal.invariant-loop-instance
invariant-loop-instance l = size_from l.sum l.functions (drop l.instance-index l.instances) ≡ size_from 0 l.functions l.instances
