use Rattle.std.proofs.Common.{◌≡◌, ◌∙◌, ℤ, ap, sym, subst}
use Rattle.wm_octagon.specs.View.{OctagonView, IsLeast}
use Rattle.wm_octagon.specs.Sides.{WithSum}
use Rattle.wm_ties.proofs.Making.{read40}
use Rattle.wm_ties.proofs.Calls.{cap_exactly}
use Rattle.wm_ties.proofs.ties.Ties.cap_sum.Goals as goal

pub returns-clause-points : goal.returns-clause-points
returns-clause-points c = cap_exactly c.args.self.now c.add_bound.new.self c.args.a c.args.b c.args.c c.requires.first c.requires.second (c.add_bound.ensures.variables ∙ ap (λ (u : OctagonView). u.variables) c.self.view_is)
    (subst (λ (u : OctagonView). IsLeast c.add_bound.new.self (WithSum u c.args.a c.args.b c.args.c)) c.self.view_is
    (subst (λ (k : ℤ). IsLeast c.add_bound.new.self (WithSum c.self.inside.octagon c.args.a c.args.b k)) (read40 c.args.c c.requires.size) c.add_bound.ensures.least))
