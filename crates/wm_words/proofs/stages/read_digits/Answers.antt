use Rattle.std.proofs.Common.{sym, ◌∙◌}
use Rattle.wm_words.proofs.Digits.{gone_above}
use Rattle.wm_words.proofs.stages.read_digits.Goals as goal

pub returns-then-stages-gt-MOST_STAGES : goal.returns-then-stages-gt-MOST_STAGES
returns-then-stages-gt-MOST_STAGES c =
    sym (sym c.loop-byte.invariant.1 ∙ gone_above c.loop-byte.stages c.loop-byte.byte-index c.args.word.now c.loop-byte-test.true (sym c.if-not-is_ascii_digit.ensures.value) c.if-stages-gt-MOST_STAGES.true)
