use Rattle.std.proofs.Common.{◌≡◌, ◌++◌, drop}
use Rattle.wm_seats.specs.Locals.{all_seats_in}
use Rattle.wm_seats.proofs.locals.all_seats.Given as goal

abbrev pub invariant-loop-function : goal.invariant-loop-function
invariant-loop-function l = l.list ++ all_seats_in (drop l.function-index l.functions) ≡ all_seats_in l.functions
