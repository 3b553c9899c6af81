-- The numbers so far and those that are left are all.
use Rattle.std.proofs.Common.{◌≡◌, drop}
use Rattle.wm_source.specs.Numbers.{numbers_of_declarators}
use Rattle.wm_source.proofs.numbers.declarators_numbers.Given as goal

abbrev pub invariant-loop-declarator : goal.invariant-loop-declarator
invariant-loop-declarator l = numbers_of_declarators (drop l.declarator-index l.declarators) l.seen ≡ numbers_of_declarators l.declarators l.fn.seen
