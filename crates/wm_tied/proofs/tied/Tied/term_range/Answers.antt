use Rattle.wm_tied.specs.Pointed.{In}
use Rattle.wm_spans.proofs.Sizes.{turned_size}
use Rattle.wm_tied.proofs.Forming.{term_hull}
use Rattle.wm_tied.proofs.tied.Tied.term_range.Goals as goal

pub returns-clause-hull : goal.returns-clause-hull
returns-clause-hull c = λ h. term_hull (In c.args.self.now) c.args.t c.range.result c.turned.result (c.range.ensures.hull h) c.turned.ensures.low c.turned.ensures.high

pub returns-clause-size : goal.returns-clause-size
returns-clause-size c = turned_size c.range.result c.turned.result c.args.t.negative c.range.ensures.narrow c.turned.ensures.low c.turned.ensures.high
