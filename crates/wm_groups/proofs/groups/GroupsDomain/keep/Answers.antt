use Rattle.wm_groups.proofs.Least.{least_left}
use Rattle.wm_groups.proofs.groups.GroupsDomain.keep.Goals as goal

pub returns-clause-least : goal.returns-clause-least
returns-clause-least c = least_left c.keep.new.self _ c.keep.ensures.left
