use Rattle.std.proofs.Common.{None, arith}
use Rattle.std.specs.Prelude.{slice_index_or}
use Rattle.wm_middle.specs.declared.parts.Part.TheVariants.{Caller}
use Rattle.wm_middle.specs.Parting.{IsApart}
use Rattle.wm_middle.proofs.Shaping.{match_both, later}
use Rattle.wm_middle.proofs.middle.add_singles.Goals as goal

pub loop-k-preserved : goal.loop-k-preserved
loop-k-preserved c = record {
  more = omega (arith, c.loop-k.invariant.more, c.in_ok-add_single_pick.ensures.more);
  inside = omega (arith, c.loop-k.invariant.inside, c.in_ok-add_single_pick.ensures.more);
  few = c.in_ok-add_single_pick.ensures.few;
  apart = λ n i w p h e. c.in_ok-add_single_pick.ensures.apart w (λ d. later c.loop-k.k i h (p.apart c.loop-k.k i w d e)) (c.loop-k.invariant.apart n i w p (omega (arith, h)) e);
  good = λ n m p a. c.in_ok-add_single_pick.ensures.good n m
      (match_both n (slice_index_or c.args.picks.now c.loop-k.k None) (λ v. IsApart c.len-count.result c.loop-k.parts.items (Caller v)) (λ v e. p.named c.loop-k.k v e) (λ v e. c.loop-k.invariant.apart n c.loop-k.k v p (omega arith) e))
      (c.loop-k.invariant.good n m p a);
}
