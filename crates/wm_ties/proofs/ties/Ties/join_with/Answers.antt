use Rattle.std.proofs.Common.{◌≡◌, ◌∙◌, ap, sym}
use Rattle.wm_octagon.specs.View.{OctagonView}
use Rattle.wm_ties.proofs.Calls.{either_narrow}
use Rattle.wm_ties.proofs.ties.Ties.join_with.Goals as goal

pub invariant_of-self : goal.invariant_of-self
invariant_of-self c = record {
  narrow = either_narrow c.self.inside.octagon c.other.inside.octagon c.join_with.new.self c.join_with.ensures.variables
      (ap (λ (u : OctagonView). u.variables) c.self.view_is ∙ c.requires ∙ sym (ap (λ (u : OctagonView). u.variables) c.other.view_is)) c.join_with.ensures.least c.self.invariant.narrow c.other.invariant.narrow;
  counted = c.self.invariant.counted ∙ sym c.join_with.ensures.variables;
}
