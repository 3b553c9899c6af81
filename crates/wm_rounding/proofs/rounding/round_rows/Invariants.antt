use Rattle.std.proofs.Common.{◌≡◌}
use Rattle.wm_rounding.specs.Cuts.{Cut}
use Rattle.wm_rounding.specs.Rounding.{MeetsPairs}
use Rattle.wm_rounding.proofs.rounding.round_rows.Given as goal

abbrev pub invariant-loop-w : goal.invariant-loop-w
invariant-loop-w g l = record {
  shape : g.D.Domain.shape_of l.state ≡ g.D.Domain.shape_of l.fn.state;
  cut : Cut (g.D.Domain.holds l.fn.state) (g.D.Domain.holds l.state) (MeetsPairs l.grid (g.D.Domain.holds l.held) l.w);
}
