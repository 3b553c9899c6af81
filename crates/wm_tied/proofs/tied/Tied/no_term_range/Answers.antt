use Rattle.wm_tied.specs.Pointed.{In}
use Rattle.wm_spans.proofs.Forming.{no_term_hull}
use Rattle.wm_tied.proofs.tied.Tied.no_term_range.Goals as goal

pub returns-clause-hull : goal.returns-clause-hull
returns-clause-hull c = λ h. no_term_hull (In c.args.self.now) h.point c.new.result h.is c.new.ensures.low c.new.ensures.high
