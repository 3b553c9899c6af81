-- Those that are left go on from what stands.
use Rattle.std.proofs.Common.{◌≡◌, drop}
use Rattle.wm_reading.specs.Outlines.{all_objects}
use Rattle.wm_reading.proofs.outline.Outline.objects_of.Given as goal

abbrev pub invariant-loop-declarator : goal.invariant-loop-declarator
invariant-loop-declarator l =
    all_objects l.is_extern l.width l.is_const (drop l.declarator-index l.declarator-items) l.self
    ≡ all_objects l.is_extern l.width l.is_const l.declaration.declarators l.fn.self
