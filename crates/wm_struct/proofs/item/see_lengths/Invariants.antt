-- What is known so far and what is left to look at give all.
use Rattle.std.proofs.Common.{◌≡◌, drop}
use Rattle.wm_struct.specs.Items.{after_lengths}
use Rattle.wm_struct.proofs.item.see_lengths.Given as goal

abbrev pub invariant-loop-line : goal.invariant-loop-line
invariant-loop-line l =
    after_lengths (drop l.line-index l.line-items) l.state
    ≡ after_lengths l.lines l.fn.state
