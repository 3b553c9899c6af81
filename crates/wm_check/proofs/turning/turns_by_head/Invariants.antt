use Rattle.std.proofs.Common.{◌≡◌, length}
use Rattle.wm_check.proofs.Turned.{Each}
use Rattle.wm_check.proofs.turning.turns_by_head.Given as goal

abbrev pub invariant-loop-k : goal.invariant-loop-k
invariant-loop-k g l = record {
  count : length l.turns ≡ l.k;
  each : Each g.D.Domain.holds l.graph l.states l.turns;
}
