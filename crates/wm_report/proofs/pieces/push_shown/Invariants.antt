use Rattle.std.proofs.Common.{◌≡◌, ◌++◌, drop}
use Rattle.wm_report.specs.Fault.{shown_key}
use Rattle.wm_report.proofs.pieces.push_shown.Given as goal

-- the bytes so far, and those of what is left
abbrev pub invariant-loop-byte : goal.invariant-loop-byte
invariant-loop-byte l = l.text.items ++ shown_key (drop l.byte-index l.key) ≡ l.fn.text.items ++ shown_key l.key
