-- Whether a body ends in a return.
use Rattle.std.specs.Prelude.{Bool, true, false, ◌&&◌, if◌then◌else◌, List}
use Rattle.wm_lang.specs.declared.statement.Block.{Block as BlockNode}
use Rattle.wm_lang.specs.declared.statement.BlockItem.{BlockItem}
use Rattle.wm_lang.specs.declared.statement.Statement.{Statement}
use Rattle.wm_source.specs.Pieces.{Piece, Block, Empty, Act, If, IfElse, For, While, Do, Break, Continue, Return, Pieces, Done, Declare, Then, piece_of, written_items}

abbrev mutual
  -- a return, a block that ends so, or an if with an else that both end so
  pub ends_so : Piece → Bool
  ends_so (Block first pieces last) = end_so false pieces
  ends_so Empty = false
  ends_so (Act simple) = false
  ends_so (If word condition body) = false
  ends_so (IfElse word condition body other otherwise) = if ends_so body then ends_so otherwise else false
  ends_so (For word begin condition step body) = false
  ends_so (While word condition body) = false
  ends_so (Do word body tail condition) = false
  ends_so (Break word) = false
  ends_so (Continue word) = false
  ends_so (Return at value) = true

  -- the last of the pieces, after one that ended so or did not
  pub end_so : Bool → Pieces → Bool
  end_so before Done = before
  end_so before (Declare declaration rest) = end_so false rest
  end_so before (Then piece rest) = end_so (ends_so piece) rest

abbrev pub ends_of : Statement → Bool
ends_of statement = ends_so (piece_of statement)

abbrev pub block_ends : List (BlockItem Statement) → Bool
block_ends items = end_so false (written_items items)
