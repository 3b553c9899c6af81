use Rattle.wm_ties.proofs.Following.{beside_plus, beside_minus, zero_less_low, zero_less_high}
use Rattle.wm_ties.proofs.ties.set_beside.Goals as goal

pub returns-then-t-clause-points : goal.returns-then-t-clause-points
returns-then-t-clause-points c = beside_minus c.args.octagon.now c.add_to.new.octagon c.negate.new.octagon c.args.v c.args.t c.args.d c.sub.result c.if-t.true
    (zero_less_low c.new.result c.args.d c.sub.result c.new.ensures.low c.sub.ensures.low) (zero_less_high c.new.result c.args.d c.sub.result c.new.ensures.high c.sub.ensures.high) c.add_to.ensures.points c.negate.ensures.points

pub returns-else-t-clause-points : goal.returns-else-t-clause-points
returns-else-t-clause-points c = beside_plus c.args.octagon.now c.add_to-else-t.new.octagon c.args.v c.args.t c.args.d c.if-t.false c.add_to-else-t.ensures.points
