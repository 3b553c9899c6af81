use Rattle.wm_groups.proofs.Least.{least_exactly}
use Rattle.wm_groups.proofs.groups.GroupsDomain.assign_range.Goals as goal

pub returns-clause-least : goal.returns-clause-least
returns-clause-least c = least_exactly c.free.new.self _ c.free.ensures.points
