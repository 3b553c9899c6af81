-- What is made so far and what is left to make are all.
use Rattle.std.proofs.Common.{◌≡◌, [], drop}
use Rattle.wm_members.specs.Making.{behind}
use Rattle.wm_struct.specs.Statements.{declarator_behind}
use Rattle.wm_struct.proofs.declaration.declarators_of.Given as goal

abbrev pub invariant-loop-declarator : goal.invariant-loop-declarator
invariant-loop-declarator l =
    behind (declarator_behind l.is_local l.words) l.done (drop l.declarator-index l.declarator-items) l.state
    ≡ behind (declarator_behind l.is_local l.words) [] l.declarators l.fn.state
