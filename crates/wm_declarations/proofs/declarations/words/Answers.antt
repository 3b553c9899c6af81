use Rattle.std.proofs.Common.{rules, arith}
use Rattle.std.proofs.lemmas.Grind.{common_steps}
use Rattle.wm_cursor.specs.Inputs.{input_of}
use Rattle.wm_declarations.specs.Declarations.{more_words}
use Rattle.wm_expressions.proofs.Turns.{one_more}
use Rattle.wm_declarations.proofs.declarations.words.Goals as goal

pub loop-turn-preserved : goal.loop-turn-preserved
loop-turn-preserved c =
    let e = one_more (λ n. more_words c.args.is_outside n c.loop-turn.words (input_of c.loop-turn.tokens)) _ c.loop-turn._turn c.loop-turn-test.true c.loop-turn.invariant in
    first_of (search rules, grind (arith, common_steps))
