use Rattle.std.proofs.Common.{◌≡◌, All}
use Rattle.wm_flow.specs.declared.action.Argument.{Argument}
use Rattle.wm_assign.specs.Giving.{InRange}
use Rattle.wm_filters.specs.Stays.{Stays}
use Rattle.wm_entered.proofs.arguments.put_others.Given as goal

abbrev pub invariant-loop-k : goal.invariant-loop-k
invariant-loop-k g l = record {
  shape : g.D.Domain.shape_of l.state ≡ g.D.Domain.shape_of l.fn.state;
  kept : Stays g.D.Domain.holds (g.D.Domain.shape_of l.fn.state) l.fn.state l.state (λ p. All (λ (it : Argument). InRange (g.D.Domain.holds l.at) it.form (p.values it.parameter)) l.arguments);
}
