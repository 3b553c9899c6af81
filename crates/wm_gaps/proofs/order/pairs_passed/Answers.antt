use Rattle.std.proofs.Common.{sym, ◌∙◌}
use Rattle.wm_gaps.proofs.Walking.{pairs_found}
use Rattle.wm_gaps.proofs.order.pairs_passed.Goals as goal

pub returns-then-is_some : goal.returns-then-is_some
returns-then-is_some g c =
    record {
      first = pairs_found c.loop-first.first c.args.count (g.D.Domain.holds c.args.have.now) (g.D.Domain.holds c.args.allowed.now) c.in_ok-found.found c.loop-first.invariant (sym c.is_some.ensures ∙ c.if-is_some.true) c.in_ok-found.ensures.first;
    }
