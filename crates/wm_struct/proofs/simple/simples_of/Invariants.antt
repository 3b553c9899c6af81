-- What is made so far and what is left to make are all.
use Rattle.std.proofs.Common.{◌≡◌, [], drop}
use Rattle.wm_members.specs.Making.{more}
use Rattle.wm_struct.specs.Statements.{simple_made}
use Rattle.wm_struct.proofs.simple.simples_of.Given as goal

abbrev pub invariant-loop-simple : goal.invariant-loop-simple
invariant-loop-simple l =
    more simple_made l.done (drop l.simple-index l.simple-items) l.state
    ≡ more simple_made [] l.simples l.fn.state
