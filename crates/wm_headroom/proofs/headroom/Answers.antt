use Rattle.std.proofs.Common.{Bool, subst, below_more}
use Rattle.wm_headroom.specs.Headroom.{TellsPassing}
use Rattle.wm_headroom.proofs.headroom.Goals as goal

pub loop-places-preserved : goal.loop-places-preserved
loop-places-preserved c =
    let P : Bool → Type 0 = λ b. TellsPassing b c.args.op c.args.boxes.now c.loop-places.places in
    below_more _ _ c.loop-places.invariant (subst P c.if-passes.false c.passes.ensures)
