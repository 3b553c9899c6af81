use Rattle.wm_hull.proofs.ShiftOps.{right_domain}
use Rattle.wm_hull.proofs.shifts.right.Goals as goal

pub value-requires-clause-domain : goal.value-requires-clause-domain
value-requires-clause-domain c = right_domain c.args.op c.requires.shift _ _
