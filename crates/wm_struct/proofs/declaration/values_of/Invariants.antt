-- What is made so far and what is left to make are all.
use Rattle.std.proofs.Common.{◌≡◌, [], drop}
use Rattle.wm_members.specs.Expressions.{expanded}
use Rattle.wm_members.specs.Making.{more}
use Rattle.wm_struct.proofs.declaration.values_of.Given as goal

abbrev pub invariant-loop-value : goal.invariant-loop-value
invariant-loop-value l =
    more expanded l.done (drop l.value-index l.value-items) l.state
    ≡ more expanded [] l.values l.fn.state
