use Rattle.wm_lacking.proofs.Words.{no_word}
use Rattle.wm_lacking.proofs.word.lacking.Goals as goal

pub returns : goal.returns
returns c = record { lacking = no_word c.args.program.now c.args.weights.now c.loop-number.number c.loop-number-test.false c.loop-number.invariant }
