-- How many objects of static storage the blocks of a body declare.
use Rattle.std.specs.Prelude.{ℕ, ◌+◌, if◌then◌else◌, length}
use Rattle.wm_lang.specs.declared.statement.Declaration.{Declaration}
use Rattle.wm_source.specs.Pieces.{Piece, Block, Empty, Act, If, IfElse, For, While, Do, Break, Continue, Return, Pieces, Done, Declare, Then}

abbrev pub grown : ℕ → ℕ → ℕ
grown more count = count + more

abbrev pub declared : Declaration → ℕ → ℕ
declared declaration count = if declaration.words.is_static then grown (length declaration.declarators) count else count

abbrev mutual
  pub statics_in : Piece → ℕ → ℕ
  statics_in (Block first pieces last) count = statics_of pieces count
  statics_in Empty count = count
  statics_in (Act act) count = count
  statics_in (If word condition body) count = statics_in body count
  statics_in (IfElse word condition body other otherwise) count = statics_in otherwise (statics_in body count)
  statics_in (For word begin condition step body) count = statics_in body count
  statics_in (While word condition body) count = statics_in body count
  statics_in (Do word body tail condition) count = statics_in body count
  statics_in (Break word) count = count
  statics_in (Continue word) count = count
  statics_in (Return at value) count = count

  pub statics_of : Pieces → ℕ → ℕ
  statics_of Done count = count
  statics_of (Declare declaration rest) count = statics_of rest (declared declaration count)
  statics_of (Then piece rest) count = statics_of rest (statics_in piece count)
