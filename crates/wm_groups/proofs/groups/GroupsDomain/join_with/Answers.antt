use Rattle.wm_groups.proofs.Least.{least_left}
use Rattle.wm_groups.proofs.groups.GroupsDomain.join_with.Goals as goal

pub returns-clause-least : goal.returns-clause-least
returns-clause-least c = least_left c.join_with.new.self _ c.join_with.ensures.left
