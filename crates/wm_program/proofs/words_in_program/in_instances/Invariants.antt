-- What was found so far and what is left give what all gives.
use Rattle.std.proofs.Common.{◌≡◌, drop}
use Rattle.wm_program.specs.Used.{in_instances}
use Rattle.wm_program.proofs.words_in_program.in_instances.Given as goal

abbrev pub invariant-loop-instance : goal.invariant-loop-instance
invariant-loop-instance l = in_instances l.word l.functions (drop l.instance-index l.instances) l.found ≡ in_instances l.word l.functions l.instances l.fn.found
