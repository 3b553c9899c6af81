use Rattle.std.proofs.Common.{refl}
use Rattle.wm_boxes.proofs.Least.{same_shape, leaves_keeps, leaves_least}
use Rattle.wm_boxes.specs.Laws.{of_form, of_count}
use Rattle.wm_boxes.proofs.boxes.BoxesDomain.assign_form.Goals as goal

pub set_form-requires-clause-inside : goal.set_form-requires-clause-inside
set_form-requires-clause-inside c = of_count c.args.self.now.group c.args.self.now.spans c.args.v c.requires.inside

pub set_form-requires-clause-form : goal.set_form-requires-clause-form
set_form-requires-clause-form c = of_form c.args.self.now.group c.args.self.now.spans c.args.f.now c.requires.form

pub returns-clause-shape : goal.returns-clause-shape
returns-clause-shape c = let l = c.set_form.ensures.leaves in same_shape c.args.self.now.group c.args.self.now.spans c.set_form.new.self l.full l.array_full

pub returns-clause-sound : goal.returns-clause-sound
returns-clause-sound c = leaves_keeps c.args.self.now.group c.args.self.now.spans _ _ refl (c.set_form.ensures.leaves)

pub returns-clause-least : goal.returns-clause-least
returns-clause-least c = leaves_least c.args.self.now.group c.args.self.now.spans _ _ refl (c.set_form.ensures.leaves)
