-- The numbers so far and those that are left are all.
use Rattle.std.proofs.Common.{◌≡◌, drop}
use Rattle.wm_source.specs.Numbers.{numbers_of_all}
use Rattle.wm_source.proofs.numbers.all_numbers.Given as goal

abbrev pub invariant-loop-expression : goal.invariant-loop-expression
invariant-loop-expression l = numbers_of_all (drop l.expression-index l.expressions) l.seen ≡ numbers_of_all l.expressions l.fn.seen
