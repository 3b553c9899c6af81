use Rattle.wm_boxes.proofs.Others.{cleared}
use Rattle.wm_boxes.proofs.boxes.BoxesDomain.clear.Goals as goal

pub returns-clause-least : goal.returns-clause-least
returns-clause-least c = cleared c.args.self.now.spans c.clear.new.self c.clear.ensures.value
