-- What is left has names just where all have.
use Rattle.std.proofs.Common.{◌≡◌, drop}
use Rattle.wm_parse.specs.Functions.{are_named}
use Rattle.wm_parse.proofs.function.are_named.Given as goal

abbrev pub invariant-loop-parameter : goal.invariant-loop-parameter
invariant-loop-parameter l = are_named (drop l.parameter-index l.parameters) ≡ are_named l.parameters
