use Rattle.std.proofs.Common.{◌≡◌, ◌++◌, ◌+◌, drop}
use Rattle.wm_findings_text.specs.Demo.{bounds_text}
use Rattle.wm_findings_text.proofs.demo.push_bounds.Given as goal

abbrev pub invariant-loop-bound : goal.invariant-loop-bound
invariant-loop-bound l = l.text.items ++ bounds_text (drop l.bound-index l.bounds) ≡ l.fn.text.items ++ bounds_text l.bounds
