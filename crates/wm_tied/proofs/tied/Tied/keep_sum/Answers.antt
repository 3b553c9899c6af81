use Rattle.wm_tied.specs.Pointed.{In}
use Rattle.wm_tied.proofs.Bounding.{exactly_left, swapped_left}
use Rattle.wm_tied.proofs.tied.Tied.keep_sum.Goals as goal

pub returns-then-a-count-clause-left : goal.returns-then-a-count-clause-left
returns-then-a-count-clause-left c = swapped_left c.keep_apart-then-a-count.new.self (In c.args.self.now) c.args.a c.args.b c.args.r.low c.args.r.high c.keep_apart-then-a-count.ensures.left

pub returns-clause-left : goal.returns-clause-left
returns-clause-left c = exactly_left c.cut_tied_sum.new.self _ c.cut_tied_sum.ensures.points

pub returns-clause-fewer : goal.returns-clause-fewer
returns-clause-fewer c = λ p i. (c.cut_tied_sum.ensures.points.made p i).point

pub returns-clause-made : goal.returns-clause-made
returns-clause-made c = λ x y. c.cut_tied_sum.ensures.points.made
