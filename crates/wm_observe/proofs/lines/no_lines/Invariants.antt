-- The lines so far, and those of what is left.
use Rattle.std.proofs.Common.{◌≡◌, ◌++◌, drop}
use Rattle.wm_observe.specs.Lines.{lines_of, unseen_from}
use Rattle.wm_observe.proofs.lines.no_lines.Given as goal

abbrev pub invariant-loop-number : goal.invariant-loop-number
invariant-loop-number l = lines_of l.lines.items ++ unseen_from l.number (drop l.number l.objects) ≡ unseen_from 0 l.objects
