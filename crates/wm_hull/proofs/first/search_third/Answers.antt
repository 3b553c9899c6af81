use Rattle.wm_ops.specs.Outcomes.{fails_of}
use Rattle.wm_hull.proofs.Narrowing.{begin_third, box_within, fits_third}
use Rattle.wm_hull.proofs.first.search_third.Goals as goal

pub loop-left-init : goal.loop-left-init
loop-left-init c = begin_third (fails_of c.args.op) c.args.x c.args.y c.args.z c.requires.some

pub half_third-left-requires-clause-types : goal.half_third-left-requires-clause-types
half_third-left-requires-clause-types c = fits_third c.args.op c.args.x c.args.y c.args.z c.loop-left.left c.requires.types c.loop-left.invariant.low_in c.loop-left.invariant.high_in

pub half_third-left-requires-clause-size : goal.half_third-left-requires-clause-size
half_third-left-requires-clause-size c = box_within c.args.z c.loop-left.left c.requires.size c.loop-left.invariant.low_in c.loop-left.invariant.high_in

pub loop-left-preserved : goal.loop-left-preserved
loop-left-preserved c = c.half_third-left.ensures.keeps c.args.z c.loop-left.invariant
