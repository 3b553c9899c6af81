use Rattle.std.proofs.Common.{◌≡◌, ◌∙◌, ◌++◌, List, length, drop, ap, sym, append-nil}
use Rattle.wm_flow.specs.declared.action.Argument.{Argument}
use Rattle.wm_crossings.proofs.Given.{none_given}
use Rattle.wm_crossings.proofs.arguments.arguments_from.Goals as goal

pub returns-in_default : goal.returns-in_default
returns-in_default c =
    let list : List Argument = c.loop-seat.list in
    let h : length c.loop-seat.rest.now ≡ 0 = c.in_default.ensures.cases in
    sym (append-nil list)
    ∙ (ap (λ rest. list ++ rest) (sym (none_given c.args.bases (drop c.loop-seat.seat-index c.args.seats.now) c.loop-seat.rest.now c.loop-seat.temporaries h))
    ∙ c.loop-seat.invariant)
