use Rattle.std.proofs.Common.{refl}
use Rattle.wm_spans.proofs.Forming.{near_left}
use Rattle.wm_boxes.proofs.Others.{near_of_term}
use Rattle.wm_boxes.proofs.Least.{same_shape, leaves_keeps, leaves_least}
use Rattle.wm_boxes.specs.Laws.{of_count}
use Rattle.wm_boxes.proofs.boxes.BoxesDomain.assign_near.Goals as goal

pub set_near-requires-clause-inside : goal.set_near-requires-clause-inside
set_near-requires-clause-inside c = of_count c.args.self.now.group c.args.self.now.spans c.args.v c.requires.inside

pub set_near-requires-clause-from : goal.set_near-requires-clause-from
set_near-requires-clause-from c = of_count c.args.self.now.group c.args.self.now.spans c.args.w c.requires.from

pub returns-clause-shape : goal.returns-clause-shape
returns-clause-shape c = let l = near_of_term c.args.self.now.spans c.set_near.new.self c.args.v c.args.w c.args.d c.args.r (near_left c.args.self.now.spans c.set_near.new.self c.args.v _ c.args.d c.args.r c.set_near.ensures.full c.set_near.ensures.array_full c.set_near.ensures.kept c.set_near.ensures.spanned) in same_shape c.args.self.now.group c.args.self.now.spans c.set_near.new.self l.full l.array_full

pub returns-clause-sound : goal.returns-clause-sound
returns-clause-sound c = leaves_keeps c.args.self.now.group c.args.self.now.spans _ _ refl (near_of_term c.args.self.now.spans c.set_near.new.self c.args.v c.args.w c.args.d c.args.r (near_left c.args.self.now.spans c.set_near.new.self c.args.v _ c.args.d c.args.r c.set_near.ensures.full c.set_near.ensures.array_full c.set_near.ensures.kept c.set_near.ensures.spanned))

pub returns-clause-least : goal.returns-clause-least
returns-clause-least c = leaves_least c.args.self.now.group c.args.self.now.spans _ _ refl (near_of_term c.args.self.now.spans c.set_near.new.self c.args.v c.args.w c.args.d c.args.r (near_left c.args.self.now.spans c.set_near.new.self c.args.v _ c.args.d c.args.r c.set_near.ensures.full c.set_near.ensures.array_full c.set_near.ensures.kept c.set_near.ensures.spanned))
