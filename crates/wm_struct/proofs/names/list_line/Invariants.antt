-- What is known so far and what is left to look at give all.
use Rattle.std.proofs.Common.{◌≡◌, drop}
use Rattle.wm_struct.specs.Names.{line_listed}
use Rattle.wm_struct.proofs.names.list_line.Given as goal

abbrev pub invariant-loop-declarator : goal.invariant-loop-declarator
invariant-loop-declarator l =
    line_listed l.base (drop l.declarator-index l.declarator-items) l.listing l.state
    ≡ line_listed l.base l.declarators l.fn.listing l.fn.state
