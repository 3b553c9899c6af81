use Rattle.std.proofs.Common.{◌≡◌, ◌++◌, drop, map}
use Rattle.wm_calls.specs.Sizes.{offsets_in}
use Rattle.wm_calls.proofs.trees.call_offsets.Given as goal

abbrev pub invariant-loop-places : goal.invariant-loop-places
invariant-loop-places l = l.all ++ map (offsets_in l.sizes) (drop l.places-index l.calls) ≡ map (offsets_in l.sizes) l.calls
