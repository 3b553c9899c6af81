-- Structs and their objects, where this many more levels may be opened.
use Rattle.std.specs.Prelude.{ℕ, zero, suc, ◌-◌, if◌then◌else◌, List, [], ◌∷◌, ◌++◌}
use Rattle.wm_lang.specs.declared.expression.Identifier.{Identifier}
use Rattle.wm_lang.specs.declared.place.Position.{Position}
use Rattle.wm_lang.specs.declared.statement.Words.{Words}
use Rattle.wm_lang.specs.declared.token.Punct.TheVariants as punct
use Rattle.wm_lang.specs.declared.unit.MemberDeclarator.{MemberDeclarator}
use Rattle.wm_lang.specs.declared.unit.MemberDeclarator.TheVariants as forms
use Rattle.wm_lang.specs.declared.unit.Members.{Members}
use Rattle.wm_lang.specs.declared.unit.Struct.{Struct}
use Rattle.wm_lang.specs.declared.unit.StructObjects.{StructObjects}
use Rattle.wm_cursor.specs.Inputs.{Reader, ◌>>=◌, ◌>>◌, pure, here, take, seeing, enter, expect, identifier, count}
use Rattle.wm_expressions.specs.Expressions.{whole, separated}
use Rattle.wm_declarations.specs.Declarations.{base_type}

-- an array behind its name; the next token is the `[`
unfoldable pub array : ℕ → Identifier → Reader MemberDeclarator
array depth name = do
  bracket ← enter depth
  length ← whole (depth - 1)
  expect punct.RightBracket
  pure (forms.Array name bracket length)

unfoldable pub member : ℕ → Reader MemberDeclarator
member depth = do
  name ← identifier
  is_array ← seeing punct.LeftBracket
  if is_array then array depth name else pure (forms.Scalar name)

unfoldable pub list : ℕ → Reader (List MemberDeclarator)
list depth = separated (member depth)

-- members of one type
unfoldable pub line : ℕ → Reader Members
line depth = do
  at ← here
  base ← base_type
  found ← list depth
  expect punct.Semicolon
  pure (record { at = at; base = base; declarators = found })

-- the number bounds the turns, and each turn takes a token
abbrev pub more_lines : ℕ → ℕ → List Members → Reader (List Members)
more_lines depth zero found = pure found
more_lines depth (suc turns) found = do
  is_last ← seeing punct.RightBrace
  if is_last then pure found else (do next ← line depth; more_lines depth turns (found ++ next ∷ []))

-- lines of members up to the `}`, at least one
unfoldable pub lines : ℕ → Reader (List Members)
lines depth = do
  first ← line depth
  λ i. more_lines depth (count i) (first ∷ []) i

-- a struct behind its name; the next token is the `{`
unfoldable pub structure : ℕ → Position → Identifier → Reader Struct
structure depth at name = do
  take
  members ← lines depth
  expect punct.RightBrace
  expect punct.Semicolon
  pure (record { at = at; name = name; members = members })

unfoldable pub names : Reader (List Identifier)
names = separated identifier

-- objects of a struct, behind the struct's name
unfoldable pub objects : Position → Words → Identifier → Reader StructObjects
objects at words structure = do
  found ← names
  expect punct.Semicolon
  pure (record { at = at; words = words; structure = structure; objects = found })
