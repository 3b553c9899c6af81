use Rattle.std.proofs.Common.{◌≡◌, ◌+◌, ◌-◌, ◌^◌, ◌≤◌, min, drop, map}
use Rattle.wm_samples.specs.Form.{form_in, forms_of, frame_bytes}
use Rattle.wm_samples.proofs.cells.frame_bytes.Given as goal

-- the bytes so far with those of the inputs that are left
abbrev pub invariant-loop-input : goal.invariant-loop-input
invariant-loop-input l =
    (l.bytes ≤ 2 ^ 64 - 1)
    × (min (l.bytes + frame_bytes (map (form_in l.program.objects) (drop l.input-index l.inputs))) (2 ^ 64 - 1) ≡ min (frame_bytes (forms_of l.program)) (2 ^ 64 - 1))
