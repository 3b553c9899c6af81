use Rattle.std.proofs.Common.{◌≡◌, drop}
use Rattle.wm_calls.specs.Recursion.{first_marked}
use Rattle.wm_calls.proofs.back.first_marked.Given as goal

abbrev pub invariant-loop-place : goal.invariant-loop-place
invariant-loop-place l = first_marked l.marks (drop l.place-index l.places) ≡ first_marked l.marks l.places
