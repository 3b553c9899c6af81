-- Declarations of objects, outside of functions and in blocks, where this many more levels may be opened.
use Rattle.std.specs.Prelude.{ℕ, zero, suc, ◌-◌, Bool, true, false, if◌then◌else◌, List, [], ◌∷◌, ◌++◌, Option, Some, None}
use Rattle.wm_lang.specs.declared.expression.BaseType.{BaseType}
use Rattle.wm_lang.specs.declared.expression.Expr.{Expr}
use Rattle.wm_lang.specs.declared.expression.Identifier.{Identifier}
use Rattle.wm_lang.specs.declared.statement.Declaration.{Declaration}
use Rattle.wm_lang.specs.declared.statement.Declarator.{Declarator}
use Rattle.wm_lang.specs.declared.statement.Declarator.TheVariants as forms
use Rattle.wm_lang.specs.declared.statement.InitializerList.{InitializerList}
use Rattle.wm_lang.specs.declared.statement.Words.{Words}
use Rattle.wm_lang.specs.declared.token.Punct.TheVariants as punct
use Rattle.wm_declarations.specs.declared.declarations.Front.{Front}
use Rattle.wm_cursor.specs.declared.word.Specifier.{Specifier}
use Rattle.wm_cursor.specs.declared.word.Specifier.TheVariants as specifier
use Rattle.wm_cursor.specs.declared.word.Tail.{Tail}
use Rattle.wm_cursor.specs.declared.word.Tail.TheVariants as tail
use Rattle.wm_cursor.specs.Inputs.{Reader, ◌>>=◌, ◌>>◌, ◌<$>◌, pure, refuse, here, take, eat, seeing, enter, expect, identifier, peek, count}
use Rattle.wm_cursor.specs.Operators.{base_of}
use Rattle.wm_expressions.specs.Expressions.{whole, commas}
use Rattle.wm_cursor.specs.Words.{specifier_of, tail_of}

-- ---- words and types

abbrev pub no_words : Words
no_words = record { is_static = false; is_const = false; is_extern = false }

abbrev pub with_word : Words → Specifier → Words
with_word words specifier.Static = record { is_static = true; is_const = words.is_const; is_extern = words.is_extern }
with_word words specifier.Const = record { is_static = words.is_static; is_const = true; is_extern = words.is_extern }
with_word words specifier.Extern = record { is_static = words.is_static; is_const = words.is_const; is_extern = true }

abbrev pub more_words_by : (Words → Reader Words) → Words → Option Specifier → Reader Words
more_words_by goes_on words None = pure words
more_words_by goes_on words (Some word) = take >> goes_on (with_word words word)

-- the number bounds the turns, and each turn takes a token
abbrev pub more_words : Bool → ℕ → Words → Reader Words
more_words is_outside zero words = pure words
more_words is_outside (suc turns) words = λ i. more_words_by (more_words is_outside turns) words (specifier_of is_outside (peek i)) i

-- the words before a type, of which there may be none
unfoldable pub words : Bool → Reader Words
words is_outside = λ i. more_words is_outside (count i) no_words i

abbrev pub base_type_by : Option BaseType → Reader BaseType
base_type_by (Some base) = take >> pure base
base_type_by None = refuse

unfoldable pub base_type : Reader BaseType
base_type = λ i. base_type_by (base_of (peek i)) i

-- ---- arrays

-- what stands in the brackets of an array, and the `]`
unfoldable pub length : ℕ → Reader (Option Expr)
length depth = do
  is_empty ← eat punct.RightBracket
  if is_empty then pure None else (do value ← whole depth; expect punct.RightBracket; pure (Some value))

-- behind the last value a comma may stand before the `}`; the number bounds the turns, and each turn takes a token
abbrev pub more_values : ℕ → ℕ → List Expr → Reader (List Expr)
more_values depth zero found = pure found
more_values depth (suc turns) found = do
  goes_on ← eat punct.Comma
  is_last ← seeing punct.RightBrace
  if goes_on then (if is_last then pure found else (do next ← whole depth; more_values depth turns (found ++ next ∷ []))) else pure found

unfoldable pub values : ℕ → Reader (List Expr)
values depth = do
  first ← whole depth
  λ i. more_values depth (count i) (first ∷ []) i

-- the list of an array, if there is one; its braces open no level
unfoldable pub initializers : ℕ → Reader (Option InitializerList)
initializers depth = do
  is_there ← seeing punct.Assign
  if is_there
      then (do
        at ← take
        expect punct.LeftBrace
        found ← values depth
        expect punct.RightBrace
        pure (Some (record { at = at; values = found })))
      else pure None

-- an array behind its name; the next token is the `[`
unfoldable pub array : ℕ → Identifier → Reader Declarator
array depth name = do
  bracket ← enter depth
  found ← length (depth - 1)
  forms.Array name bracket found <$> initializers depth

-- ---- declarations

-- a scalar with an initialiser, behind its name; the next token is the `=`
unfoldable pub started : ℕ → Identifier → Reader Declarator
started depth name = do
  at ← take
  value ← whole depth
  pure (forms.Scalar name (Some (record { at = at; value = value })))

abbrev pub declarator_by : ℕ → Identifier → Tail → Reader Declarator
declarator_by depth name tail.Assign = started depth name
declarator_by depth name tail.Bracket = array depth name
declarator_by depth name tail.Other = pure (forms.Scalar name None)

-- a declared object behind its name
unfoldable pub declarator : ℕ → Identifier → Reader Declarator
declarator depth name = λ i. declarator_by depth name (tail_of (peek i)) i

unfoldable pub named : ℕ → Reader Declarator
named depth = identifier >>= declarator depth

-- declared objects with commas between them, behind the name of the first
unfoldable pub declarators : ℕ → Identifier → Reader (List Declarator)
declarators depth name = do
  first ← declarator depth name
  λ i. commas (named depth) (count i) (first ∷ []) i

-- a declaration behind its first name
unfoldable pub declared : ℕ → Front → Identifier → Reader Declaration
declared depth front name = do
  found ← declarators depth name
  expect punct.Semicolon
  pure (record { at = front.at; words = front.words; base = front.base; declarators = found })

-- a declaration of a block
unfoldable pub declaration : ℕ → Reader Declaration
declaration depth = do
  at ← here
  found ← words false
  base ← base_type
  name ← identifier
  declared depth (record { at = at; words = found; base = base }) name
