use Rattle.std.proofs.Common.{◌≡◌, ◌<◌, ap, sym, subst, All}
use Rattle.std.specs.Prelude.{IfSome}
use Rattle.wm_octagon.specs.View.{OctagonView}
use Rattle.wm_ties.proofs.Making.{project_narrow}
use Rattle.wm_ties.proofs.ties.Ties.project.Goals as goal

pub invariant_of-result : goal.invariant_of-result
invariant_of-result c = record {
  narrow = project_narrow c.self.inside.octagon c.in_ok-octagon.octagon c.args.keep.now c.args.ranges.now c.requires.long (subst (λ (u : OctagonView). All (λ p. IfSome p (λ v. v < u.variables)) c.args.keep.now) (sym c.self.view_is) c.requires.named) c.requires.narrow
      c.in_ok-octagon.ensures.variables c.in_ok-octagon.ensures.least c.self.invariant.narrow;
  counted = sym c.in_ok-octagon.ensures.variables;
}
