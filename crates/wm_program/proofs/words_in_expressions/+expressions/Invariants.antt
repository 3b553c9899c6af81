-- What was found so far and what is left give what all gives.
use Rattle.std.proofs.Common.{◌≡◌, drop, map}
use Rattle.wm_program.specs.UsedParts.{operands_of, passed_in, plain_link}
use Rattle.wm_program.specs.Used.{in_arguments, in_links}
use Rattle.wm_program.proofs.words_in_expressions.+expressions.Given as goal

abbrev pub invariant-in_operands-loop-argument : goal.invariant-in_operands-loop-argument
invariant-in_operands-loop-argument l = in_arguments l.word (operands_of (drop l.argument-index l.argument-items)) l.found ≡ in_arguments l.word (operands_of l.arguments) l.fn.found

abbrev pub invariant-in_all_passed-loop-argument : goal.invariant-in_all_passed-loop-argument
invariant-in_all_passed-loop-argument l = in_arguments l.word (passed_in (drop l.argument-index l.argument-items)) l.found ≡ in_arguments l.word (passed_in l.arguments) l.fn.found

abbrev pub invariant-in_links-loop-link : goal.invariant-in_links-loop-link
invariant-in_links-loop-link l = in_links l.word (map plain_link (drop l.link-index l.link-items)) l.found ≡ in_links l.word (map plain_link l.rest) l.fn.found
