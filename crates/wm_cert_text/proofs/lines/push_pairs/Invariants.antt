use Rattle.std.proofs.Common.{◌≡◌, ◌++◌, drop}
use Rattle.wm_cert_text.specs.Lines.{pair_lines}
use Rattle.wm_cert_text.proofs.lines.push_pairs.Given as goal

abbrev pub invariant-loop-pair : goal.invariant-loop-pair
invariant-loop-pair l = l.text.items ++ pair_lines (drop l.pair-index l.pairs) ≡ l.fn.text.items ++ pair_lines l.pairs
