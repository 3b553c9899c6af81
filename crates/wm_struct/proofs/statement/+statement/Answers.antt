-- A block is made of its items, between the opening and the closing of its scope.
use Rattle.std.proofs.Common.{ap, ◌∙◌}
use Rattle.wm_struct.specs.Statements.{statement_expanded}
use Rattle.wm_struct.proofs.Blocks.{block-at}
use Rattle.wm_struct.proofs.statement.+statement.Goals as goal

pub statement-returns-in_ok-items-in-Block : goal.statement-returns-in_ok-items-in-Block
statement-returns-in_ok-items-in-Block t c =
    record {
      made =
          ap (λ whole. statement_expanded whole c.args.state.now) c.in-Block.is
          ∙ block-at c.in-Block.block c.args.state.now c.enter.new.self c.items_of.new.state c.leave.new.self c.in_ok-items-in-Block.items
          c.in_ok-enter-in-Block.ensures.entered c.in_ok-items-in-Block.ensures.made c.leave.ensures.left;
    }
