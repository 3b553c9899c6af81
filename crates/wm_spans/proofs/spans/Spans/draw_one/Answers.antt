use Rattle.std.proofs.Common.{subst, sym, ℕ, Option}
use Rattle.wm_spans.specs.Spanned.{In}
use Rattle.wm_spans.specs.Exact.{Exactly, IsCutAt}
use Rattle.wm_spans.proofs.Picked.{cut_at_some}
use Rattle.wm_spans.proofs.spans.Spans.draw_one.Goals as goal

pub returns-in-Some-clause-points : goal.returns-in-Some-clause-points
returns-in-Some-clause-points c = subst (λ (o : Option ℕ). Exactly c.cut.new.self (IsCutAt (In c.args.spans.now) c.args.self.now c.args.k o)) (sym c.in-Some.is)
    (cut_at_some c.args.spans.now c.cut.new.self c.args.self.now c.args.k c.in-Some.v c.range.result c.range.ensures.value c.cut.ensures.points)
