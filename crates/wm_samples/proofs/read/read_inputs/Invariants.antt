use Rattle.std.proofs.Common.{◌≡◌, drop, map}
use Rattle.wm_samples.specs.Form.{form_in, forms_of}
use Rattle.wm_samples.specs.Samples.{read_inputs}
use Rattle.wm_samples.proofs.read.read_inputs.Given as goal

-- the inputs that are left, behind the numbers so far, give what all give
abbrev pub invariant-loop-number : goal.invariant-loop-number
invariant-loop-number l =
    read_inputs (map (form_in l.program.objects) (drop l.number l.inputs)) l.frame l.number (l.values, l.rest) ≡ read_inputs (forms_of l.program) l.frame 0 (l.fn.values, l.bytes)
