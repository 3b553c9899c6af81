use Rattle.wm_groups.proofs.Least.{least_left, near_left}
use Rattle.wm_groups.proofs.groups.GroupsDomain.assign_near.Goals as goal

pub returns-clause-least : goal.returns-clause-least
returns-clause-least c = least_left c.set_near.new.self _ (near_left c.args.self.now.tied c.set_near.new.self c.args.v c.args.w c.args.d c.args.r c.set_near.ensures.left)
