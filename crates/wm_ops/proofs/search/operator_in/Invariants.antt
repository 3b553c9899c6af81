-- What is left of the operators gives what all of them give.
use Rattle.std.proofs.Common.{◌≡◌, drop}
use Rattle.wm_ops.specs.Names.{first_named}
use Rattle.wm_ops.proofs.search.operator_in.Given as goal

abbrev pub invariant-loop-operator : goal.invariant-loop-operator
invariant-loop-operator l = first_named (drop l.operator-index l.operators) l.bytes ≡ first_named l.operators l.bytes
