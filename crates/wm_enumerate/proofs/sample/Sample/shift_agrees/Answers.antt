use Rattle.std.proofs.Common.{refl, sym, subst}
use Rattle.wm_octagon.specs.View.{OctagonView}
use Rattle.wm_enumerate.specs.Drawn.{IsTiny, IsLowAt}
use Rattle.wm_enumerate.proofs.Low.{shift_fits, tiny_read}
use Rattle.wm_enumerate.proofs.sample.Sample.shift_agrees.Goals as goal

pub shift-requires-clause-fits : goal.shift-requires-clause-fits
shift-requires-clause-fits c =
    let l : IsLowAt c.args.self.now.octagon c.variable-v.result = c.if-not-is_low.ensures refl in
    shift_fits c.in_ok-after.after c.variable-v.result c.coin-negate.result _
    (subst (λ (o : OctagonView). IsLowAt o c.variable-v.result) (sym c.in_ok-after.ensures.same) l)
    (subst IsTiny (sym (tiny_read c.number-more.result c.number-more.ensures)) c.number-more.ensures)
