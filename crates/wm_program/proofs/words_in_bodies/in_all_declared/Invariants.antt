-- What was found so far and what is left give what all gives.
use Rattle.std.proofs.Common.{◌≡◌, drop, map}
use Rattle.wm_program.specs.Trees.{fresh_of}
use Rattle.wm_program.specs.Used.{in_all_fresh}
use Rattle.wm_program.proofs.words_in_bodies.in_all_declared.Given as goal

abbrev pub invariant-loop-declared : goal.invariant-loop-declared
invariant-loop-declared l = in_all_fresh l.word (map fresh_of (drop l.declared-index l.all)) l.found ≡ in_all_fresh l.word (map fresh_of l.all) l.fn.found
