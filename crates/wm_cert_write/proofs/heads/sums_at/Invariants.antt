use Rattle.std.proofs.Common.{◌≡◌, ◌++◌, drop}
use Rattle.wm_cert_write.specs.Heads.{sums_at}
use Rattle.wm_cert_write.proofs.heads.sums_at.Given as goal

abbrev pub invariant-loop-sum : goal.invariant-loop-sum
invariant-loop-sum l = l.list ++ sums_at l.head (drop l.sum-index l.sums) ≡ sums_at l.head l.sums
