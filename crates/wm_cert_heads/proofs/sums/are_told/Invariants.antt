use Rattle.std.proofs.Common.{◌≡◌, ◌≤◌, drop}
use Rattle.wm_cert_heads.specs.Sums.{are_told}
use Rattle.wm_cert_heads.proofs.sums.are_told.Given as goal

-- what is left decides
abbrev pub invariant-loop-sum : goal.invariant-loop-sum
invariant-loop-sum l = record {
  left : are_told l.fn.head l.told l.place (drop l.sum-index l.sums) ≡ are_told l.fn.head l.told 0 l.sums;
  few : l.place ≤ l.sum-index;
}
