use Rattle.std.proofs.Common.{◌-◌, ◌^◌, ◌<◌, length, rules}
use Rattle.wm_samples.specs.Form.{forms_of, frame_bytes}
use Rattle.wm_samples.proofs.Counts.{count_of-min}
use Rattle.wm_samples.proofs.read.count_frames.Goals as goal

pub returns : goal.returns
returns c =
    let short : length c.args.bytes.now < 2 ^ 64 - 1 = search rules in
    record { count = rw (← count_of-min (frame_bytes (forms_of c.args.program.now)) (length c.args.bytes.now) (2 ^ 64 - 1) short, ← c.frame_bytes.ensures) c.frame_count.ensures }
