use Rattle.std.proofs.Common.{rules, arith}
use Rattle.std.proofs.lemmas.Grind.{common_steps}
use Rattle.wm_cursor.specs.Inputs.{input_of}
use Rattle.wm_expressions.specs.Expressions.{commas}
use Rattle.wm_declarations.specs.Declarations.{named}
use Rattle.wm_expressions.proofs.Turns.{one_more}
use Rattle.wm_declarations.proofs.declarations.declarators.Goals as goal

pub loop-turn-preserved : goal.loop-turn-preserved
loop-turn-preserved c =
    let e = one_more (λ n. commas (named c.args.depth) n c.loop-turn.found (input_of c.loop-turn.tokens)) _ c.loop-turn._turn c.loop-turn-test.true c.loop-turn.invariant in
    first_of (search rules, grind (arith, common_steps))
