use Rattle.std.proofs.Common.{refl}
use Rattle.wm_boxes.proofs.Least.{same_shape, leaves_keeps, leaves_least}
use Rattle.wm_boxes.specs.Laws.{of_form}
use Rattle.wm_boxes.proofs.Others.{simple_bounded}
use Rattle.wm_boxes.proofs.boxes.BoxesDomain.keep.Goals as goal

pub keep-requires : goal.keep-requires
keep-requires c = record { form = of_form c.args.self.now.group c.args.self.now.spans c.args.f.now c.requires.form }

pub returns-clause-shape : goal.returns-clause-shape
returns-clause-shape c = let l = c.keep.ensures.leaves in same_shape c.args.self.now.group c.args.self.now.spans c.keep.new.self l.full l.array_full

pub returns-clause-sound : goal.returns-clause-sound
returns-clause-sound c = leaves_keeps c.args.self.now.group c.args.self.now.spans _ _ refl (c.keep.ensures.leaves)

pub returns-clause-least : goal.returns-clause-least
returns-clause-least c = leaves_least c.args.self.now.group c.args.self.now.spans _ _ refl (c.keep.ensures.leaves)

pub returns-clause-fewer : goal.returns-clause-fewer
returns-clause-fewer c = c.keep.ensures.fewer

pub returns-clause-made : goal.returns-clause-made
returns-clause-made c = λ bounded. c.keep.ensures.made (simple_bounded _ c.args.f.now.terms bounded)
