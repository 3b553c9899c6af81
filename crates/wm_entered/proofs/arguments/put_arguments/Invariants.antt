use Rattle.std.proofs.Common.{◌≡◌, All}
use Rattle.wm_flow.specs.declared.action.Argument.{Argument}
use Rattle.wm_assign.specs.Giving.{IsGiven}
use Rattle.wm_entered.specs.Crossing.{Crosses}
use Rattle.wm_entered.proofs.arguments.put_arguments.Given as goal

abbrev pub invariant-loop-k : goal.invariant-loop-k
invariant-loop-k g l = record {
  shape : g.D.Domain.shape_of l.state ≡ g.D.Domain.shape_of l.fn.state;
  kept : Crosses g.D.Domain.holds (g.D.Domain.shape_of l.fn.state) l.between.parts.now l.fn.state l.state (λ was p. g.D.Domain.holds l.at was × All (λ (it : Argument). IsGiven (g.D.Domain.holds l.at) it.form was (p.values it.parameter)) l.arguments);
}
