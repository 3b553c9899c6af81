use Rattle.std.proofs.Common.{◌≡◌}
use Rattle.wm_domain_rows.proofs.rounds.cut.Given as goal

abbrev pub invariant-loop-a : goal.invariant-loop-a
invariant-loop-a g l = g.D.Domain.shape_of l.state ≡ l.shape

abbrev pub invariant-loop : goal.invariant-loop
invariant-loop g l = g.D.Domain.shape_of l.state ≡ l.shape
