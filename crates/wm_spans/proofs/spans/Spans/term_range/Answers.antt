use Rattle.std.proofs.Common.{ℤ, subst}
use Rattle.std.specs.Prelude.{◌↔◌}
use Rattle.wm_interval.specs.declared.Interval.{Interval}
use Rattle.wm_interval.specs.Holds.{Holds}
use Rattle.wm_domain.specs.Forms.{signed}
use Rattle.wm_spans.proofs.Sizes.{turned_size}
use Rattle.wm_spans.proofs.Ends.{term_hull}
use Rattle.wm_spans.proofs.spans.Spans.term_range.Goals as goal

pub returns-clause-hull : goal.returns-clause-hull
returns-clause-hull c = λ some. term_hull c.args.self.now c.range.ensures.kept some c.args.t c.turned.result c.requires.inside
    (subst (λ (x : Interval). (z : ℤ) → Holds c.turned.result z ↔ Holds x (signed c.args.t.negative z)) c.range.ensures.value c.turned.ensures.back)

pub returns-clause-size : goal.returns-clause-size
returns-clause-size c = turned_size c.range.result c.turned.result c.args.t.negative c.range.ensures.narrow c.turned.ensures.low c.turned.ensures.high
