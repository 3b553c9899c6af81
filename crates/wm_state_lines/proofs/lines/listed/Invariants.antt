use Rattle.std.proofs.Common.{◌≡◌, ◌++◌, drop}
use Rattle.wm_state_lines.specs.Lines.{lines_from}
use Rattle.wm_state_lines.proofs.lines.listed.Given as goal

abbrev pub invariant-loop-summary : goal.invariant-loop-summary
invariant-loop-summary l = record {
  object : l.object ≡ l.summary-index;
  lines : l.lines ++ lines_from l.object (drop l.summary-index l.told) ≡ lines_from 0 l.told;
}
