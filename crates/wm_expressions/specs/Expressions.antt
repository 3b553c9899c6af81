-- The productions of an expression, from the operands up to the chains of operators.
use Rattle.std.specs.Prelude.{ℕ, zero, suc, Bool, true, false, if◌then◌else◌, nat_lt, List, [], ◌∷◌, ◌++◌, Option, Some, None}
use Rattle.wm_lang.specs.declared.expression.BaseType.{BaseType}
use Rattle.wm_lang.specs.declared.expression.Call.{Call}
use Rattle.wm_lang.specs.declared.expression.Expr.{Expr}
use Rattle.wm_lang.specs.declared.expression.Expr.TheVariants as e
use Rattle.wm_lang.specs.declared.expression.Identifier.{Identifier}
use Rattle.wm_lang.specs.declared.expression.MemberMark.{MemberMark}
use Rattle.wm_lang.specs.declared.expression.Spot.{Spot}
use Rattle.wm_lang.specs.declared.expression.SpotKind.{SpotKind}
use Rattle.wm_lang.specs.declared.expression.SpotKind.TheVariants as spots
use Rattle.wm_lang.specs.declared.expression.UnaryMark.{UnaryMark}
use Rattle.wm_lang.specs.declared.place.Position.{Position}
use Rattle.wm_lang.specs.declared.token.Punct.TheVariants as punct
use Rattle.wm_expressions.specs.declared.grammar.Reach.{Reach}
use Rattle.wm_expressions.specs.declared.grammar.Reach.TheVariants as reach
use Rattle.wm_cursor.specs.declared.operator.Binary.{Binary}
use Rattle.wm_cursor.specs.declared.operator.Joint.{Joint}
use Rattle.wm_cursor.specs.declared.operator.Joint.TheVariants as joint
use Rattle.wm_cursor.specs.declared.operator.Start.{Start}
use Rattle.wm_cursor.specs.declared.operator.Start.TheVariants as start
use Rattle.wm_cursor.specs.declared.token.Next.{Next}
use Rattle.wm_cursor.specs.declared.token.Next.TheVariants as next
use Rattle.wm_cursor.specs.Inputs.{Reader, ◌>>=◌, ◌>>◌, ◌<$>◌, pure, refuse, here, take, eat, seeing, enter, expect, identifier, count, peek}
use Rattle.wm_cursor.specs.Operators.{start_of, joint_of, binary_at, binary_of, base_of}
use Rattle.wm_expressions.specs.Chains.{joined}

abbrev pub is_binary : Option Binary → Bool
is_binary None = false
is_binary (Some binary) = true

-- whether an operator between two operands comes next
unfoldable pub is_operator : Next → Bool
is_operator next.End = false
is_operator next.Name = false
is_operator (next.Number value) = false
is_operator (next.Key key) = false
is_operator (next.Mark mark) = is_binary (binary_at mark)

-- `*p`, of which the next token is the `*`
unfoldable pub pointed : Reader (Spot Expr)
pointed = do
  star ← take
  name ← identifier
  pure (record { at = star; kind = spots.Pointed star name })

-- The number is that of the levels that may still be opened, and the reader that of expressions inside one more level.
module _ (depth : ℕ) (deeper : Reach → Reader Expr) where
  unfoldable pub bracketed : Reader (Position × Expr)
  bracketed = do
    bracket ← enter depth
    index ← deeper reach.Whole
    expect punct.RightBracket
    pure (bracket, index)

  unfoldable pub member : Identifier → MemberMark → Position → Reader (SpotKind Expr)
  member object mark mark_at = do
    name ← identifier
    is_element ← seeing punct.LeftBracket
    if is_element
        then (λ p. spots.MemberElement object mark mark_at name p.0 p.1) <$> bracketed
        else pure (spots.Member object mark mark_at name)

  unfoldable pub element : Identifier → Reader (SpotKind Expr)
  element name = (λ p. spots.Element name p.0 p.1) <$> bracketed

  abbrev pub spot_by : Identifier → Joint → Reader (SpotKind Expr)
  spot_by name joint.Bracket = element name
  spot_by name (joint.Member mark) = take >>= member name mark
  spot_by name joint.Other = pure (spots.Scalar name)

  -- a variable, an element or a member, behind its name
  unfoldable pub spot : Identifier → Reader (SpotKind Expr)
  spot name = λ i. spot_by name (joint_of (peek i)) i

-- commas with an item behind each; the number bounds the turns, and each turn takes a token
abbrev pub commas : {A : Type 0} → Reader A → ℕ → List A → Reader (List A)
commas item zero found = pure found
commas item (suc turns) found = do
  goes_on ← eat punct.Comma
  if goes_on then (do next ← item; commas item turns (found ++ next ∷ [])) else pure found

-- items with commas between them, at least one
abbrev pub separated : {A : Type 0} → Reader A → Reader (List A)
separated item = do
  first ← item
  λ i. commas item (count i) (first ∷ []) i

module _ (deeper : Reach → Reader Expr) where
  unfoldable pub list : Reader (List Expr)
  list = separated (deeper reach.Whole)

  unfoldable pub arguments : Reader (List Expr)
  arguments = do
    is_empty ← eat punct.RightParenthesis
    if is_empty then pure [] else (do found ← list; expect punct.RightParenthesis; pure found)

  -- an expression in parentheses, behind the `(`
  unfoldable pub enclosed : Position → Reader Expr
  enclosed at = do
    inner ← deeper reach.Whole
    expect punct.RightParenthesis
    pure (e.Parenthesis at inner)

module _ (depth : ℕ) (deeper : Reach → Reader Expr) where
  -- a call behind its name; the next token is the `(`
  unfoldable pub call : Identifier → Reader (Call Expr)
  call name = do
    enter depth
    found ← arguments deeper
    pure (record { name = name; arguments = found })

  unfoldable pub named : Reader Expr
  named = do
    name ← identifier
    is_call ← seeing punct.LeftParenthesis
    if is_call
        then e.Call <$> call name
        else (λ kind. e.Spot (record { at = name.at; kind = kind })) <$> spot depth deeper name

  unfoldable pub address : Reader Expr
  address = do
    at ← take
    name ← identifier
    kind ← spot depth deeper name
    pure (e.Address at (record { at = name.at; kind = kind }))

  unfoldable pub signed : UnaryMark → Reader Expr
  signed mark = do
    at ← enter depth
    e.Unary mark at <$> deeper reach.Operand

  -- A cast behind its `(`; the next token is its type. It opens a second level, which the `)` leaves open.
  unfoldable pub cast : Position → BaseType → Reader Expr
  cast at to = do
    if nat_lt depth 2 then refuse else take
    expect punct.RightParenthesis
    e.Cast at to <$> deeper reach.Operand

  abbrev pub parenthesized_by : Position → Option BaseType → Reader Expr
  parenthesized_by at (Some to) = cast at to
  parenthesized_by at None = enclosed deeper at

  unfoldable pub parenthesized : Reader Expr
  parenthesized = do
    at ← enter depth
    λ i. parenthesized_by at (base_of (peek i)) i

  abbrev pub operand_by : Start → Reader Expr
  operand_by (start.Sign mark) = signed mark
  operand_by start.Parenthesis = parenthesized
  operand_by start.Star = e.Spot <$> pointed
  operand_by start.Ampersand = address
  operand_by start.Name = named
  operand_by (start.Number value) = (λ at. e.Number at value) <$> take
  operand_by start.Other = refuse

  -- one operand, with the signs and casts before it
  unfoldable pub operand : Reader Expr
  operand = λ i. operand_by (start_of (peek i)) i

  abbrev pub chain_by : (Expr → Reader Expr) → Reader Expr → Position → Expr → Option Binary → Reader Expr
  chain_by goes_on lower start whole None = pure whole
  chain_by goes_on lower start whole (Some binary) = do
    at ← take
    operand ← lower
    goes_on (joined start whole binary at operand)

  -- the operators of a level with their operands; the number bounds the turns, and each turn takes a token
  unfoldable pub chain : Reader Expr → ℕ → Position → ℕ → Expr → Reader Expr
  chain lower level start zero whole = pure whole
  chain lower level start (suc turns) whole = λ i. chain_by (chain lower level start turns) lower start whole (binary_of level (peek i)) i

  -- a chain of operators of this level; level 0 is one operand
  unfoldable pub level : ℕ → Reader Expr
  level zero = operand
  level (suc lower) = do
    start ← here
    first ← level lower
    λ i. chain (level lower) (suc lower) start (count i) first i

  -- the operators of the levels up to this one, behind a first operand
  unfoldable pub behind_first : ℕ → Position → Expr → Reader Expr
  behind_first zero start first = pure first
  behind_first (suc lower) start first = do
    whole ← behind_first lower start first
    λ i. chain (level lower) (suc lower) start (count i) whole i

  -- a whole expression, or one operand
  abbrev pub reached : Reach → Reader Expr
  reached reach.Whole = level 6
  reached reach.Operand = operand

-- an expression, or an operand of one, where this many more levels may be opened
unfoldable pub expression : ℕ → Reach → Reader Expr
expression zero reach = reached zero (λ _. refuse) reach
expression (suc depth) reach = reached (suc depth) (expression depth) reach

-- the same with one of the levels that are left open
unfoldable pub deeper : ℕ → Reach → Reader Expr
deeper zero reach = refuse
deeper (suc depth) reach = expression depth reach

abbrev pub whole : ℕ → Reader Expr
whole depth = expression depth reach.Whole

abbrev pub call_at : ℕ → Identifier → Reader (Call Expr)
call_at depth name = call depth (deeper depth) name

abbrev pub spot_at : ℕ → Identifier → Reader (SpotKind Expr)
spot_at depth name = spot depth (deeper depth) name
