use Rattle.std.proofs.Common.{◌≡◌, drop}
use Rattle.wm_calls.specs.Recursion.{recursion_from}
use Rattle.wm_calls.proofs.back.recursion.Given as goal

abbrev pub invariant-loop-caller : goal.invariant-loop-caller
invariant-loop-caller l = recursion_from l.calls l.caller (drop l.caller l.calls) ≡ recursion_from l.calls 0 l.calls
