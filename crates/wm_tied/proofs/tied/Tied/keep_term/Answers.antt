use Rattle.wm_tied.proofs.Bounding.{one_exactly}
use Rattle.wm_tied.proofs.tied.Tied.keep_term.Goals as goal

pub returns-clause-points : goal.returns-clause-points
returns-clause-points c = one_exactly c.args.self.now c.cut_term.new.self c.args.t c.args.r c.cut_term.ensures.points
