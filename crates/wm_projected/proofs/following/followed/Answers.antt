use Rattle.std.proofs.Common.{length}
use Rattle.wm_domain.specs.Places.{placed, places_of}
use Rattle.wm_tied.proofs.Drawing.{none_left}
use Rattle.wm_projected.proofs.following.followed.Goals as goal

pub returns-then-is_empty-clause-left : goal.returns-then-is_empty-clause-left
returns-then-is_empty-clause-left c = none_left c.in_ok-none.none c.args.tied.now c.args.tied.now (places_of (length c.args.tied.now.group) (length c.args.tied.now.spans.full) (length c.args.group.now) (length c.args.singles.now))
    (placed 0 (length c.args.tied.now.spans.array_full) (length c.args.arrays.now)) c.if-is_empty.ensures.points (λ p i d. d) c.in_ok-none.ensures.none
