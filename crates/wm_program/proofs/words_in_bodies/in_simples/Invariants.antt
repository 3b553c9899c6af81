-- What was found so far and what is left give what all gives.
use Rattle.std.proofs.Common.{◌≡◌, drop, map}
use Rattle.wm_program.specs.Trees.{effect_of}
use Rattle.wm_program.specs.Used.{in_effects}
use Rattle.wm_program.proofs.words_in_bodies.in_simples.Given as goal

abbrev pub invariant-loop-simple : goal.invariant-loop-simple
invariant-loop-simple l = in_effects l.word (map effect_of (drop l.simple-index l.simples)) l.found ≡ in_effects l.word (map effect_of l.simples) l.fn.found
