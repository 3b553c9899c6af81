use Rattle.std.proofs.Common.{append_assoc}
use Rattle.wm_report.specs.Gap.{gap_edge}
use Rattle.wm_report.proofs.gap_words.push_gap_edge.Goals as goal

pub returns : goal.returns
unfolding gap_edge
returns c =
    rw (c.in_ok-extend_from_slice-2.ensures.items, c.in_ok-extend_from_slice.ensures.items, c.in_ok-push_numbered.ensures, c.edge_word.ensures)
    (simp append_assoc)
