use Rattle.wm_accept.proofs.Trying.{tried_none}
use Rattle.wm_accept.proofs.visit.try_entry.Goals as goal

pub returns-in-None-clause-tried : goal.returns-in-None-clause-tried
returns-in-None-clause-tried g c = tried_none g.M.Images.allowed g.D.Domain.holds g.D.Domain.shape_of c.args.graph.now c.args.states.now c.args.kept.now.1 c.args.entries.now
