use Rattle.wm_tied.specs.Pointed.{In}
use Rattle.wm_spans.proofs.Forming.{two_terms_hull}
use Rattle.wm_tied.proofs.Forming.{placing_past}
use Rattle.wm_tied.proofs.tied.Tied.apart_range.Goals as goal

pub returns-clause-hull : goal.returns-clause-hull
returns-clause-hull c = λ h. two_terms_hull (In c.args.self.now) c.args.a c.args.b c.term_range.result c.term_range-2.result c.add.result c.requires.apart (placing_past c.args.self.now c.args.b.variable c.requires.single c.requires.second)
    (c.term_range.ensures.hull h) (c.term_range-2.ensures.hull h) c.add.ensures.low c.add.ensures.high
