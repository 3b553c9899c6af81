use Rattle.wm_tied.specs.Pointed.{In}
use Rattle.wm_spans.proofs.Forming.{one_term_hull}
use Rattle.wm_tied.proofs.tied.Tied.one_term_range.Goals as goal

pub returns-clause-hull : goal.returns-clause-hull
returns-clause-hull c = λ h. one_term_hull (In c.args.self.now) c.args.t c.term_range.result (c.term_range.ensures.hull h)
