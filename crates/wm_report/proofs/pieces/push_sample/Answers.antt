use Rattle.std.proofs.Common.{append_assoc}
use Rattle.wm_report.specs.Fault.{sample_of}
use Rattle.wm_report.proofs.pieces.push_sample.Goals as goal

pub returns : goal.returns
unfolding sample_of
returns c =
    rw (c.in_ok-extend_from_slice-3.ensures.items, c.in_ok-extend_from_slice-2.ensures.items, c.in_ok-push_wide.ensures, c.in_ok-extend_from_slice.ensures.items, c.from.ensures)
    (simp append_assoc)
