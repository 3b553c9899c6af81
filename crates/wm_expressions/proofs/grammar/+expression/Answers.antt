use Rattle.wm_cursor.specs.Inputs.{input_of}
use Rattle.wm_expressions.proofs.Levels.{expression_is}
use Rattle.wm_expressions.proofs.grammar.+expression.Goals as goal

pub returns : goal.returns
returns t c = rw (expression_is c.args.depth c.args.reach (input_of c.args.tokens.now)) c.reach.ensures
