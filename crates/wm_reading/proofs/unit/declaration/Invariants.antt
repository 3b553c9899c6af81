-- Those that are left go on from what stands.
use Rattle.std.proofs.Common.{◌≡◌, drop}
use Rattle.wm_reading.specs.Reading.{all_declared}
use Rattle.wm_reading.proofs.unit.declaration.Given as goal

abbrev pub invariant-loop-declarator : goal.invariant-loop-declarator
invariant-loop-declarator l =
    all_declared l.is_extern l.width l.is_const (drop l.declarator-index l.declarator-items) l.work
    ≡ all_declared l.is_extern l.width l.is_const l.declaration.declarators l.fn.work
