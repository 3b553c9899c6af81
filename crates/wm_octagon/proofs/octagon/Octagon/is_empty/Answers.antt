use Rattle.wm_octagon.proofs.Octagons.{pointless, tight_view}
use Rattle.wm_octagon.proofs.octagon.Octagon.is_empty.Goals as goal

pub returns-clause-points : goal.returns-clause-points
returns-clause-points c = pointless c.self.inside.half.variables c.self.inside.half.bounds c.self.inside.empty c.args.self.now c.self.invariant c.self.view_is

pub returns-clause-tight : goal.returns-clause-tight
returns-clause-tight c = tight_view c.self.inside.half.variables c.self.inside.half.bounds c.self.inside.empty c.args.self.now c.self.invariant c.self.view_is
