use Rattle.std.proofs.Common.{◌≡◌, ◌+◌, drop}
use Rattle.wm_cert_read.specs.Whole.{line_length}
use Rattle.wm_cert_read.proofs.whole.line_length.Given as goal

abbrev pub invariant-loop-index : goal.invariant-loop-index
invariant-loop-index l = l.index + line_length (drop l.index l.text) ≡ line_length l.text
