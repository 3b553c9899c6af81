use Rattle.std.proofs.Common.{◌≡◌, [], drop}
use Rattle.wm_instances.specs.Totals.{exceeds_from}
use Rattle.wm_instances.proofs.totals.exceeds_steps.Given as goal

abbrev pub invariant-loop-one : goal.invariant-loop-one
invariant-loop-one l = exceeds_from l.limit l.seen.items (drop l.one-index l.loops) ≡ exceeds_from l.limit [] l.loops
