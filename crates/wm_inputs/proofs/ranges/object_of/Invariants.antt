use Rattle.std.proofs.Common.{◌≡◌, drop}
use Rattle.wm_inputs.specs.Ranges.{object_from}
use Rattle.wm_inputs.proofs.ranges.object_of.Given as goal

abbrev pub invariant-loop-k : goal.invariant-loop-k
invariant-loop-k l = object_from l.k l.word (drop l.k l.objects) ≡ object_from 0 l.word l.objects
