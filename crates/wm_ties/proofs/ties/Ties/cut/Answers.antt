use Rattle.std.proofs.Common.{◌≡◌, ◌∙◌, ap, sym, subst}
use Rattle.wm_octagon.specs.View.{OctagonView, IsLeast}
use Rattle.wm_octagon.specs.Sides.{WithRange}
use Rattle.wm_ties.proofs.Calls.{cut_exactly, cut_narrow}
use Rattle.wm_ties.proofs.ties.Ties.cut.Goals as goal

pub invariant_of-self : goal.invariant_of-self
invariant_of-self c = record {
  narrow = cut_narrow c.self.inside.octagon c.add_range.new.self c.args.v c.args.r.low c.args.r.high c.add_range.ensures.variables c.add_range.ensures.least c.self.invariant.narrow;
  counted = c.self.invariant.counted ∙ sym c.add_range.ensures.variables;
}

pub returns-clause-points : goal.returns-clause-points
returns-clause-points c = cut_exactly c.args.self.now c.add_range.new.self c.args.v c.args.r.low c.args.r.high c.requires.inside (c.add_range.ensures.variables ∙ ap (λ (u : OctagonView). u.variables) c.self.view_is)
    (subst (λ (u : OctagonView). IsLeast c.add_range.new.self (WithRange u c.args.v c.args.r.low c.args.r.high)) c.self.view_is c.add_range.ensures.least)
