use Rattle.std.proofs.Common.{◌≡◌, ◌++◌, ◌+◌, drop}
use Rattle.wm_findings_text.specs.Sites.{boxes_text}
use Rattle.wm_findings_text.proofs.sites.push_boxes.Given as goal

abbrev pub invariant-loop-i : goal.invariant-loop-i
invariant-loop-i l = l.text.items ++ boxes_text (drop l.i-index l.boxes) ≡ l.fn.text.items ++ boxes_text l.boxes
