use Rattle.std.proofs.Common.{length}
use Rattle.wm_groups.proofs.Least.{least_left}
use Rattle.wm_groups.proofs.Paired.{left_as, left_keeps}
use Rattle.wm_groups.proofs.groups.GroupsDomain.follow.Goals as goal

pub returns-clause-sound : goal.returns-clause-sound
returns-clause-sound c = let s = c.args.self.now.tied in
    left_keeps c.in_ok-tied.tied _ (left_as s c.in_ok-tied.tied (length s.group) (length s.spans.full) (length s.spans.array_full) c.items.result.now c.items-2.result.now c.items-3.result.now c.args.shape.now
    c.items.ensures.items c.items-2.ensures.items c.items-3.ensures.items c.in_ok-tied.ensures.left)

pub returns-clause-least : goal.returns-clause-least
returns-clause-least c = let s = c.args.self.now.tied in
    least_left c.in_ok-tied.tied _ (left_as s c.in_ok-tied.tied (length s.group) (length s.spans.full) (length s.spans.array_full) c.items.result.now c.items-2.result.now c.items-3.result.now c.args.shape.now
    c.items.ensures.items c.items-2.ensures.items c.items-3.ensures.items c.in_ok-tied.ensures.left)
