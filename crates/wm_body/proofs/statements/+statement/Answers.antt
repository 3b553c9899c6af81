-- A block is read as its definition says.
use Rattle.std.proofs.Common.{rules}
use Rattle.wm_body.proofs.Blocks.{of_block}
use Rattle.wm_body.proofs.statements.+statement.Goals as goal

pub statement-returns-in_ok-made-in-Block : goal.statement-returns-in_ok-made-in-Block
statement-returns-in_ok-made-in-Block t c = let e = of_block c.in-Block.block in search rules
