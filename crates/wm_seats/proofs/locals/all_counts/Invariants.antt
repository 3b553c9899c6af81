use Rattle.std.proofs.Common.{◌≡◌, ◌++◌, drop}
use Rattle.wm_seats.specs.Locals.{all_counts_in}
use Rattle.wm_seats.proofs.locals.all_counts.Given as goal

abbrev pub invariant-loop-function : goal.invariant-loop-function
invariant-loop-function l = l.list ++ all_counts_in (drop l.function-index l.functions) ≡ all_counts_in l.functions
