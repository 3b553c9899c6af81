use Rattle.std.proofs.Common.{◌≡◌, drop}
use Rattle.wm_instances.specs.Totals.{is_among}
use Rattle.wm_instances.proofs.totals.is_among.Given as goal

abbrev pub invariant-loop-other : goal.invariant-loop-other
invariant-loop-other l = is_among l.step (drop l.other-index l.seen) ≡ is_among l.step l.seen
