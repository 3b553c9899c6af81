-- What is known so far and what is left to look at give all.
use Rattle.std.proofs.Common.{◌≡◌, drop}
use Rattle.wm_struct.specs.Names.{declared_declarators}
use Rattle.wm_struct.proofs.names.declare_declarators.Given as goal

abbrev pub invariant-loop-declarator : goal.invariant-loop-declarator
invariant-loop-declarator l =
    declared_declarators l.words (drop l.declarator-index l.declarator-items) l.state
    ≡ declared_declarators l.words l.declarators l.fn.state
