use Rattle.std.proofs.Common.{◌≡◌, drop}
use Rattle.wm_cert_text.specs.Whole.{has_sums}
use Rattle.wm_cert_text.proofs.write.has_sums.Given as goal

-- what is left decides
abbrev pub invariant-loop-head : goal.invariant-loop-head
invariant-loop-head l = has_sums (drop l.head-index l.heads) ≡ has_sums l.heads
