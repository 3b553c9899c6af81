use Rattle.std.proofs.Common.{◌≡◌, drop}
use Rattle.wm_calls.specs.Sizes.{size_from}
use Rattle.wm_calls.proofs.trees.size_in.Given as goal

abbrev pub invariant-loop-place : goal.invariant-loop-place
invariant-loop-place l = size_from l.sizes l.size (drop l.place-index l.places) ≡ size_from l.sizes 1 l.places
