use Rattle.wm_tied.proofs.Drawing.{left_of_old, none_left}
use Rattle.wm_projected.proofs.projecting.refitted.Goals as goal

pub returns-then-is_empty-clause-left : goal.returns-then-is_empty-clause-left
returns-then-is_empty-clause-left c = none_left c.in_ok-none.none c.args.tied.now c.in_ok-fit.fit c.args.picks.now c.args.array_picks.now c.if-is_empty.ensures.points
    (λ p i d. c.in_ok-fit.ensures.fitted.picked c.in_ok-none.none c.args.array_picks.now c.in_ok-none.ensures.group c.in_ok-none.ensures.full p i d) c.in_ok-none.ensures.none

pub returns-clause-left : goal.returns-clause-left
returns-clause-left c = left_of_old c.in_ok-drawn.drawn c.args.tied.now c.in_ok-fit.fit c.args.picks.now c.args.array_picks.now c.in_ok-fit.ensures.fitted.fewer
    (λ p i d. c.in_ok-fit.ensures.fitted.picked c.in_ok-drawn.drawn c.args.array_picks.now c.in_ok-drawn.ensures.group c.in_ok-drawn.ensures.full p i d) c.in_ok-drawn.ensures.left
