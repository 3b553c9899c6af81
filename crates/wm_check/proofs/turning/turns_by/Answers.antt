use Rattle.std.proofs.Common.{rules, ◌≡◌, false, pos}
use Rattle.std.specs.Prelude.{int_lt}
use Rattle.wm_check.proofs.Counting.{not_negative}
use Rattle.wm_check.proofs.turning.turns_by.Goals as goal

pub trips-requires-clause-not_negative : goal.trips-requires-clause-not_negative
trips-requires-clause-not_negative g c p at =
    let above : int_lt c.in-Some.range.low (pos 0) ≡ false = search rules in
    not_negative (g.D.Domain.holds c.args.state.now) c.args.growth.variable c.in-Some.range c.in-Some.ensures.exact above p at
