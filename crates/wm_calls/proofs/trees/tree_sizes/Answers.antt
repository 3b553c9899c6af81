use Rattle.std.proofs.Common.{length}
use Rattle.wm_calls.specs.Sizes.{sizes_of, size_round}
use Rattle.wm_calls.proofs.Repeating.{over}
use Rattle.wm_calls.proofs.trees.tree_sizes.Goals as goal

pub returns : goal.returns
unfolding sizes_of
returns c = record {
  sizes = over (length c.args.calls.now) c.loop-round.round (size_round c.args.calls.now) c.loop-round.sizes.items (sizes_of c.args.calls.now) c.loop-round-test.false c.loop-round.invariant;
}
