use Rattle.std.proofs.Common.{◌≡◌}
use Rattle.wm_rounding.specs.Cuts.{Cut}
use Rattle.wm_rounding.specs.Rounding.{MeetsVariables}
use Rattle.wm_rounding.proofs.rounding.round_variables.Given as goal

abbrev pub invariant-loop-v : goal.invariant-loop-v
invariant-loop-v g l = record {
  shape : g.D.Domain.shape_of l.state ≡ g.D.Domain.shape_of l.fn.state;
  cut : Cut (g.D.Domain.holds l.fn.state) (g.D.Domain.holds l.state) (MeetsVariables l.grid (g.D.Domain.holds l.held) l.v);
}
