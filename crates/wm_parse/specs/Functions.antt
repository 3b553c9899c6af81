-- Functions, with their parameters, where this many more levels may be opened.
use Rattle.std.specs.Prelude.{ℕ, ◌-◌, Bool, true, not, ◌&&◌, ◌||◌, if◌then◌else◌, List, [], ◌∷◌, Option, Some, None, is_some, Ok}
use Rattle.wm_lang.specs.declared.expression.BaseType.{BaseType}
use Rattle.wm_lang.specs.declared.expression.Identifier.{Identifier}
use Rattle.wm_lang.specs.declared.statement.Block.{Block}
use Rattle.wm_lang.specs.declared.statement.Statement.{Statement}
use Rattle.wm_lang.specs.declared.token.Punct.TheVariants as punct
use Rattle.wm_lang.specs.declared.unit.Function.{Function}
use Rattle.wm_lang.specs.declared.unit.Parameter.{Parameter}
use Rattle.wm_lang.specs.declared.unit.ParameterKind.{ParameterKind}
use Rattle.wm_lang.specs.declared.unit.ParameterKind.TheVariants as kinds
use Rattle.wm_parse.specs.declared.function.Heading.{Heading}
use Rattle.wm_parse.specs.declared.function.Opening.{Opening}
use Rattle.wm_cursor.specs.declared.word.Head.{Head}
use Rattle.wm_cursor.specs.declared.word.Head.TheVariants as head
use Rattle.wm_cursor.specs.Inputs.{Reader, ◌>>=◌, ◌>>◌, ◌<$>◌, pure, refuse, here, take, eat, seeing, enter, expect, identifier, peek, after}
use Rattle.wm_expressions.specs.Expressions.{separated}
use Rattle.wm_declarations.specs.Declarations.{length}
use Rattle.wm_blocks.specs.Statements.{block_at}
use Rattle.wm_cursor.specs.Words.{head_of, is_const, is_name}

-- ---- parameters

-- a name, if one comes next
unfoldable pub optional_name : Reader (Option Identifier)
optional_name = λ i. if is_name (peek i) then (Some <$> identifier) i else Ok (None, i)

-- a pointer to a scalar, behind its `*`
unfoldable pub pointer : Opening → BaseType → Reader Parameter
pointer start base = do
  name ← optional_name
  pure (record { at = start.at; is_const = start.is_const; kind = kinds.Pointer base; name = name })

-- what stands behind the name of an array, of which the next token is the `[`
unfoldable pub array : ℕ → BaseType → Reader ParameterKind
array depth base = do
  bracket ← enter depth
  kinds.Array base bracket <$> length (depth - 1)

-- a scalar, or an array with its brackets, behind its name
unfoldable pub kind : ℕ → BaseType → Reader ParameterKind
kind depth base = do
  is_array ← seeing punct.LeftBracket
  if is_array then array depth base else pure (kinds.Scalar base)

-- a parameter behind its type
unfoldable pub typed : ℕ → Opening → BaseType → Reader Parameter
typed depth start base = do
  is_pointer ← eat punct.Star
  if is_pointer
      then pointer start base
      else (do
        name ← optional_name
        found ← kind depth base
        pure (record { at = start.at; is_const = start.is_const; kind = found; name = name }))

-- a parameter behind its `struct`
unfoldable pub structured : Opening → Reader Parameter
structured start = do
  structure ← identifier
  expect punct.Star
  name ← optional_name
  pure (record { at = start.at; is_const = start.is_const; kind = kinds.Struct structure; name = name })

-- whether a `const` comes next, which is then taken
unfoldable pub constness : Reader Bool
constness = λ i. Ok (is_const (peek i), if is_const (peek i) then after i else i)

abbrev pub parameter_by : ℕ → Opening → Head → Reader Parameter
parameter_by depth start (head.Type base) = take >> typed depth start base
parameter_by depth start head.Struct = take >> structured start
parameter_by depth start head.Void = refuse
parameter_by depth start head.Other = refuse

unfoldable pub parameter : ℕ → Reader Parameter
parameter depth = do
  at ← here
  is_const ← constness
  λ i. parameter_by depth (record { at = at; is_const = is_const }) (head_of (peek i)) i

unfoldable pub list : ℕ → Reader (List Parameter)
list depth = separated (parameter depth)

abbrev pub some_parameters_by : ℕ → Head → Reader (List Parameter)
some_parameters_by depth head.Void = take >> pure []
some_parameters_by depth (head.Type base) = list depth
some_parameters_by depth head.Struct = list depth
some_parameters_by depth head.Other = list depth

-- parameters or `void`
unfoldable pub some_parameters : ℕ → Reader (List Parameter)
some_parameters depth = λ i. some_parameters_by depth (head_of (peek i)) i

-- the parameters in their parentheses
unfoldable pub parameters : ℕ → Reader (List Parameter)
parameters depth = do
  expect punct.LeftParenthesis
  is_empty ← eat punct.RightParenthesis
  if is_empty then pure [] else (do found ← some_parameters (depth - 1); expect punct.RightParenthesis; pure found)

-- ---- functions

-- whether each parameter has its name
abbrev pub are_named : List Parameter → Bool
are_named [] = true
are_named (parameter ∷ rest) = is_some parameter.name && are_named rest

-- the block of a function, whose parameters have names, or the `;` of a prototype
unfoldable pub body : ℕ → Bool → Reader (Option (Block Statement))
body depth is_named = do
  is_prototype ← eat punct.Semicolon
  is_block ← seeing punct.LeftBrace
  if is_prototype then pure None else (if not is_named || not is_block then refuse else Some <$> block_at depth)

-- a function behind its name
unfoldable pub function : ℕ → Heading → Reader Function
function depth heading = do
  found ← parameters depth
  block ← body depth (are_named found)
  pure (record { at = heading.at; words = heading.words; result = heading.result; name = heading.name; parameters = found; body = block })
