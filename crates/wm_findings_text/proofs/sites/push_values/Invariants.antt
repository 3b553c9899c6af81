use Rattle.std.proofs.Common.{◌≡◌, ◌++◌, ◌+◌, drop}
use Rattle.wm_findings_text.specs.Sites.{values_text}
use Rattle.wm_findings_text.proofs.sites.push_values.Given as goal

abbrev pub invariant-loop-z : goal.invariant-loop-z
invariant-loop-z l = l.text.items ++ values_text (drop l.z-index l.values) ≡ l.fn.text.items ++ values_text l.values
