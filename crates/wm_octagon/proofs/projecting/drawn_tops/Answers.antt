use Rattle.std.proofs.Common.{◌≡◌, ◌∙◌, ◌/◌, arith, subst, ap, refl}
use Rattle.std.proofs.lemmas.List.{length-set}
use Rattle.wm_octagon.specs.HalfTable.{IsSmall}
use Rattle.wm_octagon.specs.Ways.{at}
use Rattle.wm_octagon.specs.Projecting.{picked, side_by, top_by, drawn_top}
use Rattle.wm_octagon.specs.Ranges.{end_of}
use Rattle.wm_octagon.proofs.Small.{small_read, small-zero}
use Rattle.wm_octagon.proofs.Filled.{filled-none, filled-more}
use Rattle.wm_octagon.proofs.Projects.{end-is}
use Rattle.wm_octagon.proofs.projecting.drawn_tops.Goals as goal

pub loop-k-init : goal.loop-k-init
loop-k-init c = record { long = refl; filled = filled-none IsSmall _ 64 small-zero }

pub loop-k-preserved : goal.loop-k-preserved
loop-k-preserved c =
    let keep = c.args.keep.now in
    let rs = c.args.ranges.now in
    let k = c.loop-k.k in
    let few = c.requires.few in
    let long = c.requires.long in
    let s = c.side_top.ensures.small in
    let v : c.side_top.result ≡ drawn_top keep rs (at c.args.old.now) k =
    c.side_top.ensures.value
    ∙ ap (λ r. top_by (side_by (picked keep (k / 2)) k) (at c.args.old.now) (end_of r k)) c.index-ranges-k.is
    ∙ ap (top_by (side_by (picked keep (k / 2)) k) (at c.args.old.now)) (end-is rs k c.index-ranges-k.result (omega arith)) in
    record {
      long = length-set _ _ _ ∙ c.loop-k.invariant.long;
      filled = filled-more IsSmall (drawn_top keep rs (at c.args.old.now)) k c.loop-k.tops _ c.loop-k.invariant.filled (omega arith)
          (small_read c.side_top.result s ∙ v) (subst IsSmall v s);
    }
