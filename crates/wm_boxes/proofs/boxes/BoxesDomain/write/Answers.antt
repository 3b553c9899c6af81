use Rattle.std.proofs.Common.{refl}
use Rattle.wm_boxes.proofs.Others.{write_leaves}
use Rattle.wm_boxes.proofs.Least.{same_shape, leaves_keeps, leaves_least}
use Rattle.wm_boxes.proofs.boxes.BoxesDomain.write.Goals as goal

pub returns-clause-shape : goal.returns-clause-shape
returns-clause-shape c = let l = write_leaves c.args.self.now.spans c.write.new.self c.args.a c.args.r c.args.length c.write.ensures.full c.write.ensures.array_full c.write.ensures.kept c.write.ensures.near in same_shape c.args.self.now.group c.args.self.now.spans c.write.new.self l.full l.array_full

pub returns-clause-sound : goal.returns-clause-sound
returns-clause-sound c = leaves_keeps c.args.self.now.group c.args.self.now.spans _ _ refl (write_leaves c.args.self.now.spans c.write.new.self c.args.a c.args.r c.args.length c.write.ensures.full c.write.ensures.array_full c.write.ensures.kept c.write.ensures.near)

pub returns-clause-least : goal.returns-clause-least
returns-clause-least c = leaves_least c.args.self.now.group c.args.self.now.spans _ _ refl (write_leaves c.args.self.now.spans c.write.new.self c.args.a c.args.r c.args.length c.write.ensures.full c.write.ensures.array_full c.write.ensures.kept c.write.ensures.near)
