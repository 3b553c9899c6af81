-- The times so far, and those of the bodies that are left.
use Rattle.std.proofs.Common.{◌≡◌, ◌+◌, map, drop}
use Rattle.wm_ways.specs.Numbers.{cut}
use Rattle.wm_worst_text.specs.Times.{times_around, times_of}
use Rattle.wm_worst_text.proofs.Folds.{counted}
use Rattle.wm_worst_text.proofs.times.+times_of.Given as goal

abbrev pub invariant-loop-body : goal.invariant-loop-body
invariant-loop-body l = record {
  same : cut l.times ≡ l.times;
  rest : cut (l.times + times_around (map (counted l.edges l.word) (drop l.body-index l.body-items))) ≡ cut (times_of l.edges l.word l.choice);
}
