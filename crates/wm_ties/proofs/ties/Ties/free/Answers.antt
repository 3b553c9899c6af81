use Rattle.std.proofs.Common.{◌≡◌, ◌∙◌, ap, sym, subst}
use Rattle.wm_octagon.specs.View.{OctagonView, IsLeast, IsTightView}
use Rattle.wm_octagon.specs.Sides.{FreedOf}
use Rattle.wm_ties.proofs.Calls.{free_exactly, free_narrow}
use Rattle.wm_ties.proofs.ties.Ties.free.Goals as goal

pub invariant_of-self : goal.invariant_of-self
invariant_of-self c = record {
  narrow = free_narrow c.self.inside.octagon c.forget.new.self c.args.v c.args.r c.forget.ensures.variables c.forget.ensures.least c.requires.narrow c.self.invariant.narrow;
  counted = c.self.invariant.counted ∙ sym c.forget.ensures.variables;
}

pub returns-clause-points : goal.returns-clause-points
returns-clause-points c = free_exactly c.args.self.now c.forget.new.self c.args.v c.args.r.low c.args.r.high c.requires.inside (c.forget.ensures.variables ∙ ap (λ (u : OctagonView). u.variables) c.self.view_is)
    (subst (λ (u : OctagonView). IsTightView u) c.self.view_is c.is_empty-tight.ensures.tight)
    (subst (λ (u : OctagonView). IsLeast c.forget.new.self (FreedOf u c.args.v c.args.r.low c.args.r.high)) c.self.view_is c.forget.ensures.least)
