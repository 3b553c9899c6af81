-- What was taken so far and what is left are all numbers.
use Rattle.std.proofs.Common.{◌≡◌, drop, ◌++◌}
use Rattle.wm_body.proofs.lengths.listed.Given as goal

abbrev pub invariant-loop-number : goal.invariant-loop-number
invariant-loop-number l = l.list ++ drop l.number-index l.numbers ≡ l.numbers
