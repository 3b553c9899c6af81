use Rattle.std.proofs.Common.{◌≡◌, ◌++◌, drop}
use Rattle.wm_cert_sums.specs.Asked.{sums_with}
use Rattle.wm_cert_sums.proofs.asked.push_sums.Given as goal

abbrev pub invariant-loop-sum : goal.invariant-loop-sum
invariant-loop-sum l = l.list ++ sums_with l.head (drop l.sum-index l.sums) ≡ l.fn.list ++ sums_with l.head l.sums
