use Rattle.std.proofs.Common.{◌≡◌, drop}
use Rattle.std.specs.List.{list_all}
use Rattle.wm_spec.specs.Values.{is_name_byte}
use Rattle.wm_spec.proofs.values.are_name_bytes.Given as goal

-- the bytes that are left decide
abbrev pub invariant-loop-byte : goal.invariant-loop-byte
invariant-loop-byte l = list_all is_name_byte (drop l.byte-index l.text) ≡ list_all is_name_byte l.text
