-- The shifts of the sites so far.
use Rattle.std.proofs.Common.{◌≡◌, length}
use Rattle.wm_headroom_text.proofs.Least.{Each}
use Rattle.wm_headroom_text.proofs.shifts.shifts_of.Given as goal

abbrev pub invariant-loop-k : goal.invariant-loop-k
invariant-loop-k l = record {
  count : length l.shifts.items ≡ l.k;
  each : Each l.sites l.verdicts l.shifts.items l.k;
}
