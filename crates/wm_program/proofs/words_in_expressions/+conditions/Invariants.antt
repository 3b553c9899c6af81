-- What was found so far and what is left give what all gives.
use Rattle.std.proofs.Common.{◌≡◌, drop, map}
use Rattle.wm_program.specs.Trees.{test_of}
use Rattle.wm_program.specs.Used.{in_tests}
use Rattle.wm_program.proofs.words_in_expressions.+conditions.Given as goal

abbrev pub invariant-in_conditions-loop-condition : goal.invariant-in_conditions-loop-condition
invariant-in_conditions-loop-condition l = in_tests l.word (map test_of (drop l.condition-index l.condition-items)) l.found ≡ in_tests l.word (map test_of l.rest) l.fn.found
