-- The items of a unit, and the unit that tokens are.
use Rattle.std.specs.Prelude.{◌≡◌, ℕ, zero, suc, Bool, true, ◌||◌, not, ◌==◌, if◌then◌else◌, List, [], ◌∷◌, ◌++◌, Some, None, Result, Ok, Err}
use Rattle.wm_lang.specs.declared.place.Position.{Position}
use Rattle.wm_lang.specs.declared.statement.Words.{Words}
use Rattle.wm_lang.specs.declared.token.Punct.TheVariants as punct
use Rattle.wm_lang.specs.declared.token.Token.{Token}
use Rattle.wm_lang.specs.declared.unit.Item.{Item}
use Rattle.wm_lang.specs.declared.unit.Item.TheVariants as forms
use Rattle.wm_lang.specs.declared.unit.Unit as whole
use Rattle.wm_declarations.specs.declared.declarations.Front.{Front}
use Rattle.wm_cursor.specs.declared.fault.ParseFault.{ParseFault}
use Rattle.wm_cursor.specs.declared.fault.ParseFault.TheVariants.{Syntax, NoMemory}
use Rattle.wm_cursor.specs.declared.word.Head.{Head}
use Rattle.wm_cursor.specs.declared.word.Head.TheVariants as head
use Rattle.wm_cursor.specs.Inputs.{Input, Reader, ◌>>=◌, ◌>>◌, ◌<$>◌, pure, refuse, here, take, seeing, identifier, begin, peek, count, number}
use Rattle.wm_declarations.specs.Declarations.{declared, words}
use Rattle.wm_parse.specs.Functions.{function}
use Rattle.wm_declarations.specs.Structures.{objects, structure}
use Rattle.wm_cursor.specs.Words.{head_of}

-- how many levels of syntax may be open at a token
abbrev pub levels : ℕ
levels = 64

-- a function with a result, or a declaration, behind its type
unfoldable pub typed : Front → Reader Item
typed front = do
  name ← identifier
  is_function ← seeing punct.LeftParenthesis
  if is_function
      then forms.Function <$> function levels (record { at = front.at; words = front.words; result = Some front.base; name = name })
      else forms.Objects <$> declared levels front name

-- a function without a result, behind its `void`
unfoldable pub without_result : Position → Words → Reader Item
without_result at found = do
  name ← identifier
  forms.Function <$> function levels (record { at = at; words = found; result = None; name = name })

-- whether there is a word at all
abbrev pub has_words : Words → Bool
has_words found = found.is_static || found.is_const || found.is_extern

-- a struct, before which no word stands, or objects of one, behind its `struct`
unfoldable pub structured : Position → Words → Reader Item
structured at found = do
  name ← identifier
  is_struct ← seeing punct.LeftBrace
  if has_words found || not is_struct
      then forms.StructObjects <$> objects at found name
      else forms.Struct <$> structure levels at name

abbrev pub item_by : Position → Words → Head → Reader Item
item_by at found (head.Type base) = take >> typed (record { at = at; words = found; base = base })
item_by at found head.Void = take >> without_result at found
item_by at found head.Struct = take >> structured at found
item_by at found head.Other = refuse

unfoldable pub item : Reader Item
item = do
  at ← here
  found ← words true
  λ i. item_by at found (head_of (peek i)) i

-- the number bounds the turns, and each turn takes a token
abbrev pub more_items : ℕ → List Item → Reader (List Item)
more_items zero found = pure found
more_items (suc turns) found = λ i. if count i == 0 then Ok (found, i) else (item >>= λ next. more_items turns (found ++ next ∷ [])) i

-- items up to the last token
unfoldable pub items : Reader (List Item)
items = λ i. more_items (count i) [] i

abbrev pub ended : List Item × Input → Result whole.Unit ℕ
ended p = if count p.1 == 0 then Ok (record { items = p.0 }) else Err (number p.1)

abbrev pub ended_by : Result (List Item × Input) ℕ → Result whole.Unit ℕ
ended_by (Ok p) = ended p
ended_by (Err token) = Err token

-- the unit that tokens are, or the number of the first token that they cannot be one through
unfoldable pub unit_of : List Token → Result whole.Unit ℕ
unit_of tokens = ended_by (items (begin tokens))

-- What parse answers is the unit, or the fault, but for want of memory.
abbrev pub Gives : Result whole.Unit ParseFault → Result whole.Unit ℕ → Type 0
Gives (Ok unit) reading = reading ≡ Ok unit
Gives (Err (Syntax token)) reading = reading ≡ Err token
Gives (Err NoMemory) reading = Unit {0}
