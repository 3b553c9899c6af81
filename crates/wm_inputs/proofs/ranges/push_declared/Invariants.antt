use Rattle.std.proofs.Common.{◌≡◌, drop}
use Rattle.wm_inputs.specs.Ranges.{declared_from}
use Rattle.wm_inputs.proofs.ranges.push_declared.Given as goal

abbrev pub invariant-loop-k : goal.invariant-loop-k
invariant-loop-k l =
    declared_from l.k l.ranges (drop l.k l.objects) l.inputs ≡ declared_from 0 l.ranges l.objects l.initial.inputs
