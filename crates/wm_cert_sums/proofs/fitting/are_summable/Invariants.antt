use Rattle.std.proofs.Common.{◌≡◌, drop}
use Rattle.wm_cert_sums.specs.Asked.{are_summable}
use Rattle.wm_cert_sums.proofs.fitting.are_summable.Given as goal

abbrev pub invariant-loop-sum : goal.invariant-loop-sum
invariant-loop-sum l = are_summable l.group (drop l.sum-index l.sums) ≡ are_summable l.group l.sums
