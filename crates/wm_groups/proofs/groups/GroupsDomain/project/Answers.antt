use Rattle.wm_groups.proofs.Least.{least_left}
use Rattle.wm_groups.proofs.groups.GroupsDomain.project.Goals as goal

pub returns-clause-least : goal.returns-clause-least
returns-clause-least c = least_left c.in_ok-tied.tied _ c.in_ok-tied.ensures.left
