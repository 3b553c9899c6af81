-- The numbers so far and those that are left are all.
use Rattle.std.proofs.Common.{◌≡◌, drop}
use Rattle.wm_source.specs.Numbers.{numbers_of_simples}
use Rattle.wm_source.proofs.numbers.simples_numbers.Given as goal

abbrev pub invariant-loop-simple : goal.invariant-loop-simple
invariant-loop-simple l = numbers_of_simples (drop l.simple-index l.simples) l.seen ≡ numbers_of_simples l.simples l.fn.seen
