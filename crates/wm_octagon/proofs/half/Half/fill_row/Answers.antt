use Rattle.std.proofs.Common.{◌∙◌, arith, ap, subst, length, pos}
use Rattle.std.proofs.lemmas.List.{length-set, length-replicate}
use Rattle.wm_octagon.specs.HalfTable.{IsSmall}
use Rattle.wm_octagon.specs.Layout.{bound}
use Rattle.wm_octagon.proofs.Small.{small_read, small-zero}
use Rattle.wm_octagon.proofs.Filled.{filled-clear, filled-more}
use Rattle.wm_octagon.proofs.half.Half.fill_row.Goals as goal

pub loop-l-init : goal.loop-l-init
loop-l-init c = record {
  long = ap length c.requires.clear ∙ length-replicate 64 (pos 0);
  filled = filled-clear IsSmall (bound c.args.self.now.bounds c.args.k) c.args.row.now c.requires.clear small-zero;
}

pub loop-l-preserved : goal.loop-l-preserved
loop-l-preserved c = record {
  long = length-set _ _ _ ∙ c.loop-l.invariant.long;
  filled = filled-more IsSmall (bound c.args.self.now.bounds c.args.k) c.loop-l.l c.loop-l.row _ c.loop-l.invariant.filled (omega arith)
      (small_read c.bound.result c.bound.ensures.small ∙ c.bound.ensures.value) (subst IsSmall c.bound.ensures.value c.bound.ensures.small);
}
