use Rattle.std.proofs.Common.{◌≡◌, ◌++◌, drop}
use Rattle.wm_control.proofs.made.push_all.Given as goal

abbrev pub invariant-loop-number : goal.invariant-loop-number
invariant-loop-number l = l.list ++ drop l.number-index l.more ≡ l.initial.list ++ l.more
