use Rattle.std.proofs.Common.{refl, sym, subst}
use Rattle.wm_octagon.specs.View.{OctagonView}
use Rattle.wm_enumerate.specs.Drawn.{IsLowAt}
use Rattle.wm_enumerate.proofs.Low.{fits}
use Rattle.wm_enumerate.proofs.sample.Sample.difference_agrees.Goals as goal

pub assign_difference-requires-clause-fits : goal.assign_difference-requires-clause-fits
assign_difference-requires-clause-fits c =
    let l : IsLowAt c.args.self.now.octagon c.variable-w.result = c.if-not-is_low.ensures refl in
    fits c.in_ok-after.after c.variable-v.result c.variable-w.result c.interval-more.result.low c.interval-more.result.high
    (subst (λ (o : OctagonView). IsLowAt o c.variable-w.result) (sym c.in_ok-after.ensures.same) l)
    c.interval-more.ensures.tiny.low c.interval-more.ensures.tiny.high
