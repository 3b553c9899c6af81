use Rattle.wm_tied.proofs.Drawing.{none_left}
use Rattle.wm_projected.proofs.projecting.moved.Goals as goal

pub returns-then-is_empty-clause-left : goal.returns-then-is_empty-clause-left
returns-then-is_empty-clause-left c = none_left c.in_ok-none.none c.args.tied.now c.args.tied.now c.args.picks.now c.args.array_picks.now c.if-is_empty.ensures.points (λ p i d. d) c.in_ok-none.ensures.none
