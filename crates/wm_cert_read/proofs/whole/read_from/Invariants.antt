use Rattle.std.proofs.Common.{◌≡◌, ◌+◌, drop}
use Rattle.wm_cert_read.specs.Whole.{read_from}
use Rattle.wm_cert_read.proofs.whole.read_from.Given as goal

-- what is left of the text decides
abbrev pub invariant-loop-byte : goal.invariant-loop-byte
invariant-loop-byte l = record {
  left : read_from (drop l.byte-index l.text) l.reading l.line l.rest ≡ read_from l.text l.fn.reading 4 l.text;
  count : l.line ≡ l.byte-index + 4;
}
