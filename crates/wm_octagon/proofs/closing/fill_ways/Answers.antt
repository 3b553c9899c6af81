use Rattle.std.proofs.Common.{◌≡◌, ◌∙◌, ◌+ℤ◌, arith, subst, ap, length, pos, to_z, of_z, w64}
use Rattle.std.proofs.lemmas.List.{length-set, length-replicate}
use Rattle.std.specs.Int.{int_min}
use Rattle.wm_octagon.specs.Medium.{IsMedium}
use Rattle.wm_octagon.specs.Closing.{through}
use Rattle.wm_octagon.specs.Ways.{at}
use Rattle.wm_octagon.proofs.Small.{small_read, medium-zero, medium_read}
use Rattle.wm_octagon.proofs.Filled.{filled-clear, filled-more}
use Rattle.wm_octagon.proofs.closing.fill_ways.Goals as goal

pub loop-k-init : goal.loop-k-init
loop-k-init c = record {
  long = ap length c.requires.clear ∙ length-replicate 64 (pos 0);
  filled = filled-clear IsMedium (through (at c.args.near.now) (at c.args.far.now) (to_z w64 (of_z w64 c.args.around)) (to_z w64 (of_z w64 c.args.c))) c.args.ways.now c.requires.clear medium-zero;
}

pub loop-k-preserved : goal.loop-k-preserved
unfolding through
loop-k-preserved c =
    let here = to_z w64 (of_z w64 c.args.c) in
    let round = to_z w64 (of_z w64 c.args.around) in
    let value : c.way.result ≡ through (at c.args.near.now) (at c.args.far.now) round here c.loop-k.k =
    c.way.ensures.value
    ∙ ap (λ z. int_min (z +ℤ here) (to_z w64 (of_z w64 (at c.args.far.now c.opposite-other.result)) +ℤ round)) (small_read _ (c.requires.near c.opposite-other.result))
    ∙ ap (λ z. int_min (at c.args.near.now c.opposite-other.result +ℤ here) (z +ℤ round)) (small_read _ (c.requires.far c.opposite-other.result))
    ∙ ap (λ o. int_min (at c.args.near.now o +ℤ here) (at c.args.far.now o +ℤ round)) c.opposite-other.ensures in
    record {
      long = length-set _ _ _ ∙ c.loop-k.invariant.long;
      filled = filled-more IsMedium _ c.loop-k.k c.loop-k.ways _ c.loop-k.invariant.filled (omega arith)
          (medium_read c.way.result c.way.ensures.sized ∙ value) (subst IsMedium value c.way.ensures.sized);
    }
