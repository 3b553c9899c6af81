use Rattle.wm_cursor.specs.Inputs.{input_of}
use Rattle.wm_blocks.proofs.Blocks.{statement_is}
use Rattle.wm_blocks.proofs.nesting.+statement.Goals as goal

pub returns : goal.returns
returns t c = rw (statement_is c.args.depth (input_of c.args.tokens.now)) c.any.ensures
