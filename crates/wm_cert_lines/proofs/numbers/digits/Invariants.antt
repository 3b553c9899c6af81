use Rattle.std.proofs.Common.{◌≡◌, drop}
use Rattle.wm_cert_lines.specs.Numbers.{digits_from}
use Rattle.wm_cert_lines.proofs.numbers.digits.Given as goal

abbrev pub invariant-loop-digit : goal.invariant-loop-digit
invariant-loop-digit l = digits_from l.value (drop l.digit-index l.word) ≡ digits_from 0 l.word
