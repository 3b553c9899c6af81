use Rattle.std.proofs.Common.{◌≡◌, ◌-◌, length, []}
use Rattle.wm_calls.specs.Repeated.{repeated}
use Rattle.wm_calls.specs.Sizes.{size_round}
use Rattle.wm_calls.proofs.trees.tree_sizes.Given as goal

abbrev pub invariant-loop-round : goal.invariant-loop-round
invariant-loop-round l = repeated (length l.calls - l.round) (size_round l.calls) l.sizes.items ≡ repeated (length l.calls) (size_round l.calls) []
