use Rattle.wm_hull.proofs.ShiftOps.{left_domain}
use Rattle.wm_hull.proofs.shifts.left.Goals as goal

pub value-requires-clause-domain : goal.value-requires-clause-domain
value-requires-clause-domain c = left_domain c.args.op c.requires.shift _ _
