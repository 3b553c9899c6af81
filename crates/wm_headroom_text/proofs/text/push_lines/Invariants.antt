use Rattle.std.proofs.Common.{◌≡◌, ◌++◌, drop}
use Rattle.wm_headroom_text.specs.Text.{shift_lines}
use Rattle.wm_headroom_text.proofs.text.push_lines.Given as goal

abbrev pub invariant-loop-k : goal.invariant-loop-k
invariant-loop-k l = l.text.items ++ shift_lines l.names l.verdicts l.shifts l.k (drop l.k l.sites) ≡ l.fn.text.items ++ shift_lines l.names l.verdicts l.shifts 0 l.sites
