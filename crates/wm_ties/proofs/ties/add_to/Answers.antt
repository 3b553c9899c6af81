use Rattle.wm_ties.proofs.Following.{add_exactly, add_sized, far_enough}
use Rattle.wm_ties.proofs.ties.add_to.Goals as goal

pub assign_difference-requires-clause-fits : goal.assign_difference-requires-clause-fits
assign_difference-requires-clause-fits c = λ x a. far_enough (x c.args.v) (add_sized c.args.octagon.now c.args.v c.args.w c.args.d c.requires.from c.requires.words c.requires.near x a)

pub returns-clause-points : goal.returns-clause-points
returns-clause-points c = add_exactly c.args.octagon.now c.assign_difference.new.self c.args.v c.args.w c.args.d c.requires.inside c.requires.from c.assign_difference.ensures.variables c.is_empty-tight.ensures.tight c.assign_difference.ensures.least

pub returns-clause-sized : goal.returns-clause-sized
returns-clause-sized c = λ x p. add_sized c.args.octagon.now c.args.v c.args.w c.args.d c.requires.from c.requires.words c.requires.near x (((returns-clause-points c) x).0 p)
