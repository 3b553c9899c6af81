use Rattle.std.proofs.Common.{◌≡◌, ℕ, ◌<◌}
use Rattle.wm_rounding.specs.Cuts.{Cut}
use Rattle.wm_rounding.specs.Rounding.{MeetsPair}
use Rattle.wm_rounding.proofs.rounding.round_row.Given as goal

abbrev pub invariant-loop-v : goal.invariant-loop-v
invariant-loop-v g l = record {
  shape : g.D.Domain.shape_of l.state ≡ g.D.Domain.shape_of l.fn.state;
  cut : Cut (g.D.Domain.holds l.fn.state) (g.D.Domain.holds l.state) (λ p. (u : ℕ) → u < l.v → MeetsPair l.grid (g.D.Domain.holds l.held) u l.w p);
}
