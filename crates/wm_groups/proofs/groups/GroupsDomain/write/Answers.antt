use Rattle.wm_groups.proofs.Least.{least_left}
use Rattle.wm_groups.proofs.groups.GroupsDomain.write.Goals as goal

pub returns-clause-least : goal.returns-clause-least
returns-clause-least c = least_left c.write.new.self _ c.write.ensures.left
