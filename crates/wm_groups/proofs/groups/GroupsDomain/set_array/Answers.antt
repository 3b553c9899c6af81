use Rattle.wm_groups.proofs.Least.{least_exactly}
use Rattle.wm_groups.proofs.groups.GroupsDomain.set_array.Goals as goal

pub returns-clause-least : goal.returns-clause-least
returns-clause-least c = least_exactly c.set_array.new.self _ c.set_array.ensures.points
