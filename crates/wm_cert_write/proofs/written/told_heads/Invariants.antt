use Rattle.std.proofs.Common.{◌≡◌}
use Rattle.wm_cert_write.specs.Heads.{AreHeads}
use Rattle.wm_cert_write.proofs.written.told_heads.Given as goal

abbrev pub invariant-loop-head : goal.invariant-loop-head
invariant-loop-head g l = record {
  at : l.number ≡ l.head-index;
  heads : AreHeads g.D.Domain.shape_of g.D.Domain.holds g.D.Domain.PAIRS l.graph l.states l.number l.told;
}
