use Rattle.std.proofs.Common.{length, take, drop}
use Rattle.wm_boxes.proofs.Least.{exactly_keeps, exactly_least}
use Rattle.wm_boxes.proofs.Paired.{paired_as}
use Rattle.wm_boxes.proofs.boxes.BoxesDomain.follow.Goals as goal

pub returns-clause-sound : goal.returns-clause-sound
returns-clause-sound c = let s = c.args.self.now in
    exactly_keeps _ _ (paired_as s.spans c.in_ok-spans.spans (length (take s.group s.spans.full)) (length (drop s.group s.spans.full)) (length s.spans.array_full) c.items-group.result.now c.items.result.now c.items-2.result.now c.args.shape.now
    c.items-group.ensures.items c.items.ensures.items c.items-2.ensures.items c.in_ok-spans.ensures.points)

pub returns-clause-least : goal.returns-clause-least
returns-clause-least c = let s = c.args.self.now in
    exactly_least _ _ (paired_as s.spans c.in_ok-spans.spans (length (take s.group s.spans.full)) (length (drop s.group s.spans.full)) (length s.spans.array_full) c.items-group.result.now c.items.result.now c.items-2.result.now c.args.shape.now
    c.items-group.ensures.items c.items.ensures.items c.items-2.ensures.items c.in_ok-spans.ensures.points)
