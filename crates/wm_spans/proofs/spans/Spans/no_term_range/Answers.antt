use Rattle.wm_spans.proofs.Ends.{lowest, lowest_in}
use Rattle.wm_spans.specs.Spanned.{In}
use Rattle.wm_spans.proofs.Forming.{no_term_hull}
use Rattle.wm_spans.proofs.spans.Spans.no_term_range.Goals as goal

pub returns-clause-hull : goal.returns-clause-hull
returns-clause-hull c = λ some. no_term_hull (In c.args.self.now) (lowest c.args.self.now) c.new.result (lowest_in c.args.self.now c.is_empty-kept.ensures.kept some) c.new.ensures.low c.new.ensures.high
