use Rattle.wm_ops.specs.Outcomes.{fails_of}
use Rattle.wm_hull.proofs.Narrowing.{begin_second, box_within, fits_second}
use Rattle.wm_hull.proofs.first.search_second.Goals as goal

pub loop-left-init : goal.loop-left-init
loop-left-init c = begin_second (fails_of c.args.op) c.args.x c.args.y c.args.z c.requires.some

pub half_second-left-requires-clause-types : goal.half_second-left-requires-clause-types
half_second-left-requires-clause-types c = fits_second c.args.op c.args.x c.args.y c.args.z c.loop-left.left c.requires.types c.loop-left.invariant.low_in c.loop-left.invariant.high_in

pub half_second-left-requires-clause-size : goal.half_second-left-requires-clause-size
half_second-left-requires-clause-size c = box_within c.args.y c.loop-left.left c.requires.size c.loop-left.invariant.low_in c.loop-left.invariant.high_in

pub loop-left-preserved : goal.loop-left-preserved
loop-left-preserved c = c.half_second-left.ensures.keeps c.args.y c.loop-left.invariant
