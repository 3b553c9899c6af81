use Rattle.wm_spans.specs.Spanned.{In}
use Rattle.wm_spans.proofs.Summing.{placing_in}
use Rattle.wm_spans.proofs.Forming.{two_terms_hull}
use Rattle.wm_spans.proofs.spans.Spans.two_terms_range.Goals as goal

pub returns-clause-hull : goal.returns-clause-hull
returns-clause-hull c = λ some. two_terms_hull (In c.args.self.now) c.args.a c.args.b c.term_range.result c.term_range-2.result c.add.result c.requires.apart (placing_in c.args.self.now c.args.b.variable c.requires.second)
    (c.term_range.ensures.hull some) (c.term_range-2.ensures.hull some) c.add.ensures.low c.add.ensures.high
