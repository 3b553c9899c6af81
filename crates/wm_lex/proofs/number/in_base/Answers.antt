use Rattle.std.proofs.Common.{arith}
use Rattle.wm_lex.proofs.NumberSteps.{too_great}
use Rattle.wm_lex.proofs.number.in_base.Goals as goal

pub returns-then-value-limit : goal.returns-then-value-limit
returns-then-value-limit c = too_great c.args.base c.args.limit c.loop-byte.value c.loop-byte.byte-index c.digit_value-digit.result c.args.digits.now c.loop-byte-test.true c.digit_value-digit.ensures (omega arith) (omega arith) c.loop-byte.invariant.value
