use Rattle.wm_middle.proofs.Shaping.{found_all}
use Rattle.wm_middle.proofs.parts.find.Goals as goal

pub returns : goal.returns
returns c = found_all c.args.parts.now c.args.part c.find_among.result c.find_among.ensures
