use Rattle.std.proofs.Common.{◌≡◌, drop}
use Rattle.wm_inputs.specs.Ranges.{packed_from}
use Rattle.wm_inputs.proofs.ranges.push_packed.Given as goal

abbrev pub invariant-loop-name : goal.invariant-loop-name
invariant-loop-name l =
    packed_from l.objects l.ranges (drop l.name-index l.pack) l.inputs ≡ packed_from l.objects l.ranges l.pack l.initial.inputs
