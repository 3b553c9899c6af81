-- The numbers that the number tokens of a body stand for.
use Rattle.std.specs.Prelude.{List, [], ◌∷◌, ◌++◌, ℤ, Option, Some, None}
use Rattle.wm_lang.specs.declared.expression.Expr.{Expr}
use Rattle.wm_lang.specs.declared.expression.SpotKind.{SpotKind}
use Rattle.wm_lang.specs.declared.expression.SpotKind.TheVariants as spot
use Rattle.wm_lang.specs.declared.statement.BlockItem.{BlockItem}
use Rattle.wm_lang.specs.declared.statement.Declaration.{Declaration}
use Rattle.wm_lang.specs.declared.statement.Declarator.{Declarator}
use Rattle.wm_lang.specs.declared.statement.Declarator.TheVariants as declarator
use Rattle.wm_lang.specs.declared.statement.Initializer.{Initializer}
use Rattle.wm_lang.specs.declared.statement.InitializerList.{InitializerList}
use Rattle.wm_lang.specs.declared.statement.Simple.{Simple}
use Rattle.wm_lang.specs.declared.statement.Simple.TheVariants as simple
use Rattle.wm_lang.specs.declared.statement.Statement.{Statement}
use Rattle.wm_source.specs.Pieces.{Piece, Block, Empty, Act, If, IfElse, For, While, Do, Break, Continue, Return, Pieces, Done, Declare, Then, piece_of, written_items}
use Rattle.wm_source.specs.Reading.{source_of}
use Rattle.wm_source.specs.Source.{Source, Chain, Unary, Cast, Number, Scalar, Element, Pointed, Member, Call, Parenthesis, AddressOf, AddressOfElement, AddressOfOther, Parts, End, Part, Sources, None as NoSource, More}

-- Each list is that of what was seen before, with the numbers at its end.
abbrev mutual
  pub numbers_in : Source → List ℤ → List ℤ
  numbers_in (Chain level at first parts) seen = numbers_in_parts parts (numbers_in first seen)
  numbers_in (Unary mark at operand) seen = numbers_in operand seen
  numbers_in (Cast at to operand) seen = numbers_in operand seen
  numbers_in (Number at z) seen = seen ++ z ∷ []
  numbers_in (Scalar at name) seen = seen
  numbers_in (Element at name bracket index) seen = numbers_in index seen
  numbers_in (Pointed at star name) seen = seen
  numbers_in (Member at object) seen = seen
  numbers_in (Call name arguments) seen = numbers_in_sources arguments seen
  numbers_in (Parenthesis at inner) seen = numbers_in inner seen
  numbers_in (AddressOf at name) seen = seen
  numbers_in (AddressOfElement at name bracket index) seen = numbers_in index seen
  numbers_in (AddressOfOther at object) seen = seen

  pub numbers_in_parts : Parts → List ℤ → List ℤ
  numbers_in_parts End seen = seen
  numbers_in_parts (Part mark at operand rest) seen = numbers_in_parts rest (numbers_in operand seen)

  pub numbers_in_sources : Sources → List ℤ → List ℤ
  numbers_in_sources NoSource seen = seen
  numbers_in_sources (More source rest) seen = numbers_in_sources rest (numbers_in source seen)

abbrev pub numbers_of : Expr → List ℤ → List ℤ
numbers_of expression seen = numbers_in (source_of expression) seen

abbrev pub numbers_of_maybe : Option Expr → List ℤ → List ℤ
numbers_of_maybe None seen = seen
numbers_of_maybe (Some expression) seen = numbers_of expression seen

abbrev pub numbers_of_all : List Expr → List ℤ → List ℤ
numbers_of_all [] seen = seen
numbers_of_all (expression ∷ rest) seen = numbers_of_all rest (numbers_of expression seen)

abbrev pub numbers_of_spot : SpotKind Expr → List ℤ → List ℤ
numbers_of_spot (spot.Scalar name) seen = seen
numbers_of_spot (spot.Element name bracket index) seen = numbers_of index seen
numbers_of_spot (spot.Pointed star name) seen = seen
numbers_of_spot (spot.Member object mark mark_at member) seen = seen
numbers_of_spot (spot.MemberElement object mark mark_at member bracket index) seen = seen

abbrev pub numbers_of_simple : Simple → List ℤ → List ℤ
numbers_of_simple (simple.Assign spot mark at value) seen = numbers_of value (numbers_of_spot spot.kind seen)
numbers_of_simple (simple.StepAfter spot mark at) seen = numbers_of_spot spot.kind seen
numbers_of_simple (simple.StepBefore mark at spot) seen = numbers_of_spot spot.kind seen
numbers_of_simple (simple.Call call) seen = numbers_of_all call.arguments seen

abbrev pub numbers_of_simples : List Simple → List ℤ → List ℤ
numbers_of_simples [] seen = seen
numbers_of_simples (simple ∷ rest) seen = numbers_of_simples rest (numbers_of_simple simple seen)

abbrev pub numbers_of_value : Option Initializer → List ℤ → List ℤ
numbers_of_value None seen = seen
numbers_of_value (Some initial) seen = numbers_of initial.value seen

abbrev pub numbers_of_values : Option InitializerList → List ℤ → List ℤ
numbers_of_values None seen = seen
numbers_of_values (Some initial) seen = numbers_of_all initial.values seen

abbrev pub numbers_of_declarator : Declarator → List ℤ → List ℤ
numbers_of_declarator (declarator.Scalar name initial) seen = numbers_of_value initial seen
numbers_of_declarator (declarator.Array name bracket length initial) seen = numbers_of_values initial (numbers_of_maybe length seen)

abbrev pub numbers_of_declarators : List Declarator → List ℤ → List ℤ
numbers_of_declarators [] seen = seen
numbers_of_declarators (declarator ∷ rest) seen = numbers_of_declarators rest (numbers_of_declarator declarator seen)

abbrev mutual
  pub numbers_of_piece : Piece → List ℤ → List ℤ
  numbers_of_piece (Block first pieces last) seen = numbers_of_pieces pieces seen
  numbers_of_piece Empty seen = seen
  numbers_of_piece (Act simple) seen = numbers_of_simple simple seen
  numbers_of_piece (If word condition body) seen = numbers_of_piece body (numbers_of condition seen)
  numbers_of_piece (IfElse word condition body other otherwise) seen =
      numbers_of_piece otherwise (numbers_of_piece body (numbers_of condition seen))
  numbers_of_piece (For word begin condition step body) seen =
      numbers_of_piece body (numbers_of_simples step (numbers_of_maybe condition (numbers_of_simples begin seen)))
  numbers_of_piece (While word condition body) seen = numbers_of_piece body (numbers_of condition seen)
  numbers_of_piece (Do word body tail condition) seen = numbers_of condition (numbers_of_piece body seen)
  numbers_of_piece (Break word) seen = seen
  numbers_of_piece (Continue word) seen = seen
  numbers_of_piece (Return at value) seen = numbers_of_maybe value seen

  pub numbers_of_pieces : Pieces → List ℤ → List ℤ
  numbers_of_pieces Done seen = seen
  numbers_of_pieces (Declare declaration rest) seen = numbers_of_pieces rest (numbers_of_declarators declaration.declarators seen)
  numbers_of_pieces (Then piece rest) seen = numbers_of_pieces rest (numbers_of_piece piece seen)

abbrev pub numbers_of_statement : Statement → List ℤ → List ℤ
numbers_of_statement statement seen = numbers_of_piece (piece_of statement) seen

abbrev pub numbers_of_items : List (BlockItem Statement) → List ℤ → List ℤ
numbers_of_items items seen = numbers_of_pieces (written_items items) seen
