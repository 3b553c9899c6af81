-- The value so far is within the limit, and the digits that are left make the same of it.
use Rattle.std.proofs.Common.{◌≡◌, ◌≤◌, drop}
use Rattle.wm_lex.specs.Numbers.{value_from}
use Rattle.wm_lex.proofs.number.in_base.Given as goal

abbrev pub invariant-loop-byte : goal.invariant-loop-byte
invariant-loop-byte l = record {
  value : value_from l.base l.value (drop l.byte-index l.digits) ≡ value_from l.base 0 l.digits;
  within : l.value ≤ l.limit;
}
