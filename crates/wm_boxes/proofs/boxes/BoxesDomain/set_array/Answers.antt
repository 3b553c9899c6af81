use Rattle.std.proofs.Common.{refl}
use Rattle.wm_spans.proofs.Forming.{exactly_left}
use Rattle.wm_boxes.proofs.Least.{same_shape, leaves_keeps, leaves_least}
use Rattle.wm_boxes.proofs.boxes.BoxesDomain.set_array.Goals as goal

pub returns-clause-shape : goal.returns-clause-shape
returns-clause-shape c = let l = exactly_left c.args.self.now.spans c.set_array.new.self _ c.set_array.ensures.full c.set_array.ensures.array_full c.set_array.ensures.points in same_shape c.args.self.now.group c.args.self.now.spans c.set_array.new.self l.full l.array_full

pub returns-clause-sound : goal.returns-clause-sound
returns-clause-sound c = leaves_keeps c.args.self.now.group c.args.self.now.spans _ _ refl (exactly_left c.args.self.now.spans c.set_array.new.self _ c.set_array.ensures.full c.set_array.ensures.array_full c.set_array.ensures.points)

pub returns-clause-least : goal.returns-clause-least
returns-clause-least c = leaves_least c.args.self.now.group c.args.self.now.spans _ _ refl (exactly_left c.args.self.now.spans c.set_array.new.self _ c.set_array.ensures.full c.set_array.ensures.array_full c.set_array.ensures.points)

pub returns-clause-made : goal.returns-clause-made
returns-clause-made c = c.set_array.ensures.points.made
