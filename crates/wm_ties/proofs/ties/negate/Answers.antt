use Rattle.wm_ties.proofs.Following.{negate_exactly, negate_sized}
use Rattle.wm_ties.proofs.ties.negate.Goals as goal

pub shift-requires-clause-fits : goal.shift-requires-clause-fits
shift-requires-clause-fits c = negate_sized c.args.octagon.now c.args.v c.requires.sized

pub returns-clause-points : goal.returns-clause-points
returns-clause-points c = negate_exactly c.args.octagon.now c.shift.new.self c.args.v c.requires.inside c.shift.ensures.variables c.shift.ensures.least
