-- A statement of a source as plain data.
use Rattle.std.specs.Prelude.{List, [], ◌∷◌, map, Option, Some, None}
use Rattle.wm_lang.specs.declared.expression.Expr.{Expr}
use Rattle.wm_lang.specs.declared.place.Position.{Position}
use Rattle.wm_lang.specs.declared.statement.Block.{Block as BlockNode}
use Rattle.wm_lang.specs.declared.statement.BlockItem.{BlockItem}
use Rattle.wm_lang.specs.declared.statement.BlockItem.TheVariants as item
use Rattle.wm_lang.specs.declared.statement.Declaration.{Declaration}
use Rattle.wm_lang.specs.declared.statement.Otherwise.{Otherwise}
use Rattle.wm_lang.specs.declared.statement.Simple.{Simple}
use Rattle.wm_lang.specs.declared.statement.Statement.{Statement}
use Rattle.wm_lang.specs.declared.statement.Statement.TheOpen.{Statement-F}
use Rattle.wm_lang.specs.declared.statement.Statement.TheFolds.{fold-Statement}
use Rattle.wm_lang.specs.declared.statement.Word.{Word}

mutual
  pub data Piece : Type 0 where
    Block : (first : Position) → Pieces → (last : Position) → Piece
    Empty : Piece
    Act : Simple → Piece
    If : Word → (condition : Expr) → (body : Piece) → Piece
    IfElse : Word → (condition : Expr) → (body : Piece) → (other : Word) → Piece → Piece
    For : Word → (begin : List Simple) → (condition : Option Expr) → (step : List Simple) → (body : Piece) → Piece
    While : Word → (condition : Expr) → (body : Piece) → Piece
    Do : Word → (body : Piece) → (tail : Word) → (condition : Expr) → Piece
    Break : Word → Piece
    Continue : Word → Piece
    Return : (at : Position) → (value : Option Expr) → Piece

  -- what stands in a block
  pub data Pieces : Type 0 where
    Done : Pieces
    Declare : Declaration → Pieces → Pieces
    Then : Piece → Pieces → Pieces

abbrev pub pieces_of : List (BlockItem Piece) → Pieces
pieces_of [] = Done
pieces_of (item.Declaration declaration ∷ rest) = Declare declaration (pieces_of rest)
pieces_of (item.Statement piece ∷ rest) = Then piece (pieces_of rest)

abbrev pub if_of : Word → Expr → Piece → Option (Otherwise Piece) → Piece
if_of word condition body None = If word condition body
if_of word condition body (Some other) = IfElse word condition body other.word other.body

abbrev pub piece_step : Statement-F Piece → Piece
piece_step (Statement-F.Block block) = Block block.first (pieces_of block.items) block.last
piece_step (Statement-F.Empty at) = Empty
piece_step (Statement-F.Simple simple) = Act simple
piece_step (Statement-F.If word condition body otherwise) = if_of word condition body otherwise
piece_step (Statement-F.For word begin condition step body) = For word begin condition step body
piece_step (Statement-F.While word condition body) = While word condition body
piece_step (Statement-F.Do word body tail condition) = Do word body tail condition
piece_step (Statement-F.Break word) = Break word
piece_step (Statement-F.Continue word) = Continue word
piece_step (Statement-F.Return at value) = Return at value

abbrev pub piece_of : Statement → Piece
piece_of = fold-Statement Piece piece_step

abbrev pub written_item : BlockItem Statement → BlockItem Piece
written_item (item.Declaration declaration) = item.Declaration declaration
written_item (item.Statement statement) = item.Statement (piece_of statement)

abbrev pub written_items : List (BlockItem Statement) → Pieces
written_items items = pieces_of (map written_item items)
