use Rattle.std.proofs.Common.{◌≡◌, drop}
use Rattle.wm_instances.specs.Totals.{loops_from}
use Rattle.wm_instances.proofs.totals.loops_from.Given as goal

abbrev pub invariant-loop-one : goal.invariant-loop-one
invariant-loop-one l = loops_from l.sum l.function (drop l.one-index l.loops) ≡ loops_from l.count l.function l.loops
