-- What is made so far and what is left to make are all.
use Rattle.std.proofs.Common.{◌≡◌, [], drop}
use Rattle.wm_members.specs.Making.{more}
use Rattle.wm_struct.specs.Names.{slot_made}
use Rattle.wm_struct.proofs.names.slots_of.Given as goal

abbrev pub invariant-loop-parameter : goal.invariant-loop-parameter
invariant-loop-parameter l =
    more slot_made l.slots (drop l.parameter-index l.parameter-items) l.state
    ≡ more slot_made [] l.parameters l.fn.state
