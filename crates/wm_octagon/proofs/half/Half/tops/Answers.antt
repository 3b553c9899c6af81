use Rattle.std.proofs.Common.{◌≡◌, ◌∙◌, arith, subst, sym, ap, refl}
use Rattle.std.proofs.lemmas.List.{length-set}
use Rattle.wm_octagon.specs.HalfTable.{IsSmall}
use Rattle.wm_octagon.specs.Layout.{bound, opposite}
use Rattle.wm_octagon.specs.Closing.{half_of, top}
use Rattle.wm_octagon.proofs.Small.{small_read, small-zero, half_small}
use Rattle.wm_octagon.proofs.Filled.{filled-none, filled-more}
use Rattle.wm_octagon.proofs.half.Half.tops.Goals as goal

pub loop-k-init : goal.loop-k-init
loop-k-init c = record { long = refl; filled = filled-none IsSmall _ 64 small-zero }

pub loop-k-preserved : goal.loop-k-preserved
unfolding top
loop-k-preserved c =
    let v : c.halved.result ≡ half_of (bound c.args.self.now.bounds (opposite c.loop-k.k) c.loop-k.k) =
    c.halved.ensures.value ∙ ap half_of (small_read c.bound.result c.bound.ensures.small ∙ c.bound.ensures.value ∙ ap (λ j. bound c.args.self.now.bounds j c.loop-k.k) c.opposite.ensures) in
    let s = subst IsSmall (sym c.halved.ensures.value) (half_small _ (subst IsSmall (sym (small_read c.bound.result c.bound.ensures.small)) c.bound.ensures.small)) in
    record {
      long = length-set _ _ _ ∙ c.loop-k.invariant.long;
      filled = filled-more IsSmall (top (bound c.args.self.now.bounds)) c.loop-k.k c.loop-k.tops _ c.loop-k.invariant.filled (omega arith)
          (small_read c.halved.result s ∙ v) (subst IsSmall v s);
    }
