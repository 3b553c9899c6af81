use Rattle.std.proofs.Common.{refl}
use Rattle.wm_boxes.proofs.Least.{full_of, arrays_of}
use Rattle.wm_boxes.proofs.Others.{join_leaves}
use Rattle.wm_boxes.proofs.Least.{same_shape, leaves_keeps, leaves_least}
use Rattle.wm_boxes.proofs.boxes.BoxesDomain.join_with.Goals as goal

pub join_with-requires-clause-full : goal.join_with-requires-clause-full
join_with-requires-clause-full c = full_of c.args.self.now c.args.other.now c.requires.shape

pub join_with-requires-clause-array_full : goal.join_with-requires-clause-array_full
join_with-requires-clause-array_full c = arrays_of c.args.self.now c.args.other.now c.requires.shape

pub returns-clause-shape : goal.returns-clause-shape
returns-clause-shape c = let l = join_leaves c.args.self.now.spans c.args.other.now.spans c.join_with.new.self (full_of c.args.self.now c.args.other.now c.requires.shape) (arrays_of c.args.self.now c.args.other.now c.requires.shape) c.join_with.ensures.full c.join_with.ensures.array_full c.join_with.ensures.kept c.join_with.ensures.spanned in same_shape c.args.self.now.group c.args.self.now.spans c.join_with.new.self l.full l.array_full

pub returns-clause-sound : goal.returns-clause-sound
returns-clause-sound c = leaves_keeps c.args.self.now.group c.args.self.now.spans _ _ refl (join_leaves c.args.self.now.spans c.args.other.now.spans c.join_with.new.self (full_of c.args.self.now c.args.other.now c.requires.shape) (arrays_of c.args.self.now c.args.other.now c.requires.shape) c.join_with.ensures.full c.join_with.ensures.array_full c.join_with.ensures.kept c.join_with.ensures.spanned)

pub returns-clause-least : goal.returns-clause-least
returns-clause-least c = leaves_least c.args.self.now.group c.args.self.now.spans _ _ refl (join_leaves c.args.self.now.spans c.args.other.now.spans c.join_with.new.self (full_of c.args.self.now c.args.other.now c.requires.shape) (arrays_of c.args.self.now c.args.other.now c.requires.shape) c.join_with.ensures.full c.join_with.ensures.array_full c.join_with.ensures.kept c.join_with.ensures.spanned)
