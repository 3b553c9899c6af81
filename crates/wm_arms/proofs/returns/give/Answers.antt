-- A return with a value draws what its definition says.
use Rattle.wm_program.specs.Trees.{expression_of}
use Rattle.wm_places.specs.Seen.{plan_of}
use Rattle.wm_control.specs.Seen.{around_of}
use Rattle.wm_arms.proofs.ReturnsDrawn.{returning_is}
use Rattle.wm_arms.proofs.returns.give.Goals as goal

pub returns : goal.returns
unfolding around_of
returns c =
    returning_is (plan_of c.args.plan.now) c.args.scene (around_of c.args.around) (expression_of c.args.x.now) c.args.narrowing c.in_ok-bases.bases c.in_ok-kept.kept c.in_ok-count.count c.args.pen.now c.expression.new.pen c.narrow.new.pen c.place.new.pen c.clear_both.new.pen c.jump.new.pen c.in_ok-bases.ensures c.in_ok-kept.ensures.value c.in_ok-count.ensures c.in_ok-kept.ensures.strokes c.in_ok-narrow.ensures c.in_ok-place.ensures c.in_ok-clear_both.ensures c.in_ok-jump.ensures
