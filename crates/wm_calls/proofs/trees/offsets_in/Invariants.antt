use Rattle.std.proofs.Common.{◌≡◌, ◌++◌, drop}
use Rattle.wm_calls.specs.Sizes.{offsets_from}
use Rattle.wm_calls.proofs.trees.offsets_in.Given as goal

abbrev pub invariant-loop-place : goal.invariant-loop-place
invariant-loop-place l = l.offsets ++ offsets_from l.sizes l.offset (drop l.place-index l.places) ≡ offsets_from l.sizes 1 l.places
