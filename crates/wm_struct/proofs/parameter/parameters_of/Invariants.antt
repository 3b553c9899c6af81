-- What is made so far and what is left to make are all.
use Rattle.std.proofs.Common.{◌≡◌, [], drop}
use Rattle.wm_members.specs.Making.{behind}
use Rattle.wm_struct.specs.Parameters.{parameter_behind}
use Rattle.wm_struct.proofs.parameter.parameters_of.Given as goal

abbrev pub invariant-loop-parameter : goal.invariant-loop-parameter
invariant-loop-parameter l =
    behind parameter_behind l.done (drop l.parameter-index l.parameter-items) l.state
    ≡ behind parameter_behind [] l.parameters l.fn.state
