use Rattle.std.proofs.Common.{◌≡◌, ◌∙◌, ◌+ℤ◌, arith, subst, ap, length, pos}
use Rattle.std.proofs.lemmas.Int.{to_z-of_z}
use Rattle.std.proofs.lemmas.List.{length-set, length-replicate}
use Rattle.std.specs.Int.{int_min}
use Rattle.wm_octagon.specs.Medium.{IsMedium}
use Rattle.wm_octagon.specs.Layout.{opposite, bound}
use Rattle.wm_octagon.specs.Closing.{half_of}
use Rattle.wm_octagon.specs.Ways.{at, least_way}
use Rattle.wm_octagon.proofs.Small.{medium-zero, medium_read, fits_small, fits_medium}
use Rattle.wm_octagon.proofs.Filled.{filled-clear, filled-more}
use Rattle.wm_octagon.proofs.closing.fill_tops.Goals as goal

pub loop-k-init : goal.loop-k-init
loop-k-init c = record {
  long = ap length c.requires.clear ∙ length-replicate 64 (pos 0);
  filled = filled-clear IsMedium (λ k. half_of (least_way c.args.to_j.now c.args.from_j.now c.args.to_i.now c.args.from_i.now (bound c.args.half.now.bounds (opposite k) k) (opposite k) k)) c.args.tops.now c.requires.clear medium-zero;
}

pub loop-k-preserved : goal.loop-k-preserved
loop-k-preserved c =
    let r1 = fits_small _ c.bound-old.ensures.small in
    let r2 = fits_medium _ (c.requires.to_j c.opposite-other.result) in
    let r3 = fits_small _ (c.requires.from_j c.loop-k.k) in
    let r4 = fits_medium _ (c.requires.to_i c.opposite-other.result) in
    let r5 = fits_small _ (c.requires.from_i c.loop-k.k) in
    let plain : c.half_least.result ≡ half_of (int_min c.bound-old.result (int_min (at c.args.to_j.now c.opposite-other.result +ℤ at c.args.from_j.now c.loop-k.k) (at c.args.to_i.now c.opposite-other.result +ℤ at c.args.from_i.now c.loop-k.k))) =
    simp to_z-of_z at c.half_least.ensures.value in
    let value : c.half_least.result ≡ half_of (least_way c.args.to_j.now c.args.from_j.now c.args.to_i.now c.args.from_i.now (bound c.args.half.now.bounds (opposite c.loop-k.k) c.loop-k.k) (opposite c.loop-k.k) c.loop-k.k) =
    plain
    ∙ ap (λ b. half_of (int_min b (int_min (at c.args.to_j.now c.opposite-other.result +ℤ at c.args.from_j.now c.loop-k.k) (at c.args.to_i.now c.opposite-other.result +ℤ at c.args.from_i.now c.loop-k.k)))) (c.bound-old.ensures.value ∙ ap (λ o. bound c.args.half.now.bounds o c.loop-k.k) c.opposite-other.ensures)
    ∙ ap (λ o. half_of (int_min (bound c.args.half.now.bounds (opposite c.loop-k.k) c.loop-k.k) (int_min (at c.args.to_j.now o +ℤ at c.args.from_j.now c.loop-k.k) (at c.args.to_i.now o +ℤ at c.args.from_i.now c.loop-k.k)))) c.opposite-other.ensures in
    record {
      long = length-set _ _ _ ∙ c.loop-k.invariant.long;
      filled = filled-more IsMedium _ c.loop-k.k c.loop-k.tops _ c.loop-k.invariant.filled (omega arith)
          (medium_read c.half_least.result c.half_least.ensures.sized ∙ value) (subst IsMedium value c.half_least.ensures.sized);
    }
