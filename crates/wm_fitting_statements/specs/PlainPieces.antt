-- What the reading of statements asks of them: plain expressions without forms of structs.
use Rattle.std.specs.List.{All}
use Rattle.wm_source.specs.Pieces.{Piece, Block, Empty, Act, If, IfElse, For, While, Do, Break, Continue, Return, Pieces, Done, Declare, Then}
use Rattle.wm_fitting_acts.specs.PlainActs.{IsPlainSimple}
use Rattle.wm_fitting_parts.specs.PlainParts.{IsPlainOption}
use Rattle.wm_fitting_declarations.specs.PlainDeclarations.{IsPlainValue, IsPlainDeclaration}

abbrev mutual
  pub IsPlainPiece : Piece → Type 0
  IsPlainPiece (Block first pieces last) = ArePlainPieces pieces
  IsPlainPiece Empty = Unit {0}
  IsPlainPiece (Act act) = IsPlainSimple act
  IsPlainPiece (If word condition body) = IsPlainValue condition × IsPlainPiece body
  IsPlainPiece (IfElse word condition body other otherwise) = IsPlainValue condition × IsPlainPiece body × IsPlainPiece otherwise
  IsPlainPiece (For word begin condition step body) =
      All IsPlainSimple begin × IsPlainOption condition × All IsPlainSimple step × IsPlainPiece body
  IsPlainPiece (While word condition body) = IsPlainValue condition × IsPlainPiece body
  IsPlainPiece (Do word body tail condition) = IsPlainPiece body × IsPlainValue condition
  IsPlainPiece (Break word) = Unit {0}
  IsPlainPiece (Continue word) = Unit {0}
  IsPlainPiece (Return at value) = IsPlainOption value

  pub ArePlainPieces : Pieces → Type 0
  ArePlainPieces Done = Unit {0}
  ArePlainPieces (Declare it rest) = IsPlainDeclaration it × ArePlainPieces rest
  ArePlainPieces (Then piece rest) = IsPlainPiece piece × ArePlainPieces rest
