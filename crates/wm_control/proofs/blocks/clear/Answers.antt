use Rattle.wm_places.specs.Seen.{plan_of}
use Rattle.std.proofs.Common.{◌∙◌}
use Rattle.wm_control.proofs.SmallPieces.{clearing_is}
use Rattle.wm_control.proofs.blocks.clear.Goals as goal

pub returns : goal.returns
returns c =
    c.in_ok-clear_these.ensures
    ∙ clearing_is (plan_of c.args.plan.now) c.args.scene c.args.locals.now c.in_ok-variables.variables c.args.temporaries c.args.pen.now c.in_ok-variables.ensures
