use Rattle.std.proofs.Common.{◌≡◌, ◌++◌, take}
use Rattle.wm_gen.proofs.text.push_bytes.Given as goal

-- the bytes so far
abbrev pub invariant-loop-byte : goal.invariant-loop-byte
invariant-loop-byte l = l.text ≡ l.fn.text ++ take l.byte-index l.bytes
