use Rattle.std.proofs.Common.{◌<◌, sym, ◌∙◌, rules}
use Rattle.wm_gaps.proofs.Walking.{row_found}
use Rattle.wm_gaps.proofs.order.row_passed.Goals as goal

pub returns-then-is_some : goal.returns-then-is_some
returns-then-is_some g c =
    let apart : c.args.first < c.loop-second.second = search rules in
    let inside : c.loop-second.second < c.args.count = search rules in
    record {
      first = row_found c.args.first c.loop-second.second c.args.count (g.D.Domain.holds c.args.have.now) (g.D.Domain.holds c.args.allowed.now) c.in_ok-found.found apart inside c.loop-second.invariant (sym c.is_some.ensures ∙ c.if-is_some.true) c.in_ok-found.ensures.first;
    }
