-- What is known so far and what is left to look at give all.
use Rattle.std.proofs.Common.{◌≡◌, drop}
use Rattle.wm_struct.specs.Items.{after_line}
use Rattle.wm_struct.proofs.item.see_line.Given as goal

abbrev pub invariant-loop-declarator : goal.invariant-loop-declarator
invariant-loop-declarator l =
    after_line (drop l.declarator-index l.declarator-items) l.state
    ≡ after_line l.declarators l.fn.state
