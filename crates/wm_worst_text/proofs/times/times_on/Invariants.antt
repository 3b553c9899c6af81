-- The times so far and those of what is left.
use Rattle.std.proofs.Common.{◌≡◌, ◌+◌, drop}
use Rattle.wm_ways.specs.Numbers.{cut}
use Rattle.wm_worst_text.specs.Times.{times_on}
use Rattle.wm_worst_text.proofs.times.times_on.Given as goal

abbrev pub invariant-loop-k : goal.invariant-loop-k
invariant-loop-k l = record {
  same : cut l.times ≡ l.times;
  rest : cut (l.times + times_on l.edges l.word (drop l.k l.numbers)) ≡ cut (times_on l.edges l.word l.numbers);
}
