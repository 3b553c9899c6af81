use Rattle.std.proofs.Common.{◌≡◌, ◌++◌, drop}
use Rattle.wm_cert_sums.specs.Asked.{sums_from}
use Rattle.wm_cert_sums.proofs.asked.push_heads.Given as goal

abbrev pub invariant-loop-head : goal.invariant-loop-head
invariant-loop-head l = record {
  at : l.number ≡ l.head-index;
  left : l.list ++ sums_from l.number (drop l.head-index l.heads) ≡ l.fn.list ++ sums_from 0 l.heads;
}
