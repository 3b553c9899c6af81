use Rattle.std.proofs.Common.{None, arith}
use Rattle.std.specs.Prelude.{slice_index_or}
use Rattle.wm_middle.proofs.Shaping.{match_below}
use Rattle.wm_middle.proofs.middle.add_picked.Goals as goal

pub loop-k-preserved : goal.loop-k-preserved
loop-k-preserved c = record {
  more = omega (arith, c.loop-k.invariant.more, c.in_ok-add_pick.ensures.more);
  few = c.in_ok-add_pick.ensures.few;
  good = λ n m p a. c.in_ok-add_pick.ensures.good n m (match_below n (slice_index_or c.args.picks.now c.loop-k.k None) (λ v e. p.named c.loop-k.k v e)) (c.loop-k.invariant.good n m p a);
}
