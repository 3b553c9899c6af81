use Rattle.std.proofs.Common.{◌≡◌, length}
use Rattle.wm_state_lines.proofs.Telling.{Each}
use Rattle.wm_state_lines.proofs.lines.told_of.Given as goal

abbrev pub invariant-loop-place : goal.invariant-loop-place
invariant-loop-place g l = record {
  count : length l.told.items ≡ l.place;
  each : Each (g.D.Domain.holds l.state) l.objects l.seats l.told.items;
}
