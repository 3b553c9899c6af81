use Rattle.wm_tied.specs.Pointed.{In}
use Rattle.wm_tied.proofs.Forming.{ranged_as}
use Rattle.wm_tied.proofs.tied.Tied.cut_term.Goals as goal

pub returns-clause-points : goal.returns-clause-points
returns-clause-points c = ranged_as c.cut.new.self (In c.args.self.now) c.args.t c.args.r c.turned.result c.turned.ensures.back c.cut.ensures.points
