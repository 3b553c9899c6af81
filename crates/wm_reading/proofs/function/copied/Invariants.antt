-- The numbers so far and those that are left are all.
use Rattle.std.proofs.Common.{◌≡◌, drop, ◌++◌}
use Rattle.wm_reading.proofs.function.copied.Given as goal

abbrev pub invariant-loop-number : goal.invariant-loop-number
invariant-loop-number l = l.list ++ drop l.number-index l.numbers ≡ l.numbers
