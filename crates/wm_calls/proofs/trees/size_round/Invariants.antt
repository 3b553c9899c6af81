use Rattle.std.proofs.Common.{◌≡◌, ◌++◌, drop, map}
use Rattle.wm_calls.specs.Sizes.{size_in}
use Rattle.wm_calls.proofs.trees.size_round.Given as goal

abbrev pub invariant-loop-places : goal.invariant-loop-places
invariant-loop-places l = l.next.items ++ map (size_in l.sizes) (drop l.places-index l.calls) ≡ map (size_in l.sizes) l.calls
