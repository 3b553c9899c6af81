use Rattle.std.proofs.Common.{◌≡◌, ◌-◌, []}
use Rattle.wm_samples.specs.Form.{forms_of}
use Rattle.wm_samples.specs.Samples.{read_frames}
use Rattle.wm_samples.specs.Seen.{values_of}
use Rattle.wm_samples.proofs.read.read_frames.Given as goal

-- the frames that are left, behind those that were read, give what all give
abbrev pub invariant-loop-frame : goal.invariant-loop-frame
invariant-loop-frame l =
    read_frames (l.count - l.frame) (forms_of l.program) l.frame (values_of l.frames) l.rest ≡ read_frames l.count (forms_of l.program) 0 [] l.bytes
