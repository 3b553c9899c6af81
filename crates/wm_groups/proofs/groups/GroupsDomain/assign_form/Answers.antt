use Rattle.wm_groups.proofs.Least.{least_left}
use Rattle.wm_groups.proofs.groups.GroupsDomain.assign_form.Goals as goal

pub returns-clause-least : goal.returns-clause-least
returns-clause-least c = least_left c.set_form.new.self _ c.set_form.ensures.left
