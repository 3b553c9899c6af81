use Rattle.std.proofs.Common.{◌≡◌, drop}
use Rattle.wm_inputs.specs.Ranges.{is_bad}
use Rattle.wm_inputs.proofs.ranges.is_bad.Given as goal

abbrev pub invariant-loop-object : goal.invariant-loop-object
invariant-loop-object l = is_bad (drop l.object-index l.objects) l.range ≡ is_bad l.objects l.range
