use Rattle.std.proofs.Common.{◌≡◌, ◌++◌, drop, map}
use Rattle.wm_inputs.specs.Ranges.{marked_object}
use Rattle.wm_inputs.proofs.objects.marked_objects.Given as goal

abbrev pub invariant-loop-object : goal.invariant-loop-object
invariant-loop-object l = l.marked ++ map (marked_object l.ranges) (drop l.object-index l.objects) ≡ map (marked_object l.ranges) l.objects
