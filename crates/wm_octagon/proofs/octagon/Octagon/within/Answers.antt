use Rattle.std.proofs.Common.{◌∙◌, sym, ap}
use Rattle.wm_octagon.specs.View.{OctagonView}
use Rattle.wm_octagon.proofs.OctagonJoins.{no_bounds, has_no_point, seen, included, below_of}
use Rattle.wm_octagon.proofs.octagon.Octagon.within.Goals as goal

pub returns-then-other : goal.returns-then-other
returns-then-other c =
    let none = no_bounds c.other.inside.half.variables c.other.inside.half.bounds c.other.inside.empty c.args.other.now c.if-other.true c.other.view_is in
    record {
      inclusion = (λ h. absurd (cc), λ sub. absurd (has_no_point c.self.inside.half.variables c.self.inside.half.bounds c.self.inside.empty c.args.self.now c.args.other.now c.if-self.false c.self.invariant c.self.view_is none sub));
    }

pub returns : goal.returns
returns c =
    let same = ap (λ (o : OctagonView). o.variables) c.self.view_is ∙ c.requires ∙ sym (ap (λ (o : OctagonView). o.variables) c.other.view_is) in
    let s = seen c.self.inside.half.variables c.other.inside.half.variables c.self.inside.half.bounds c.other.inside.half.bounds c.self.inside.empty c.other.inside.empty c.args.self.now c.args.other.now same c.if-self.false c.if-other.false c.self.invariant c.self.view_is c.other.view_is in
    record {
      inclusion = (
        λ h. included c.self.inside.half.variables c.self.inside.half.bounds c.other.inside.half.bounds c.args.self.now c.args.other.now c.is_below.ensures.whole s (c.is_below.ensures.value.0 h),
        λ sub. c.is_below.ensures.value.1 (below_of c.self.inside.half.variables c.self.inside.half.bounds c.other.inside.half.bounds c.args.self.now c.args.other.now c.is_below.ensures.whole s sub),
      );
    }
