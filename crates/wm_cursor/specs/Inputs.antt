-- What is left of the tokens, and the steps that every production is made of.
use Rattle.std.specs.Prelude.{◌≡◌, ℕ, ◌-◌, ◌==◌, Bool, false, if◌then◌else◌, List, [], ◌∷◌, length, Result, Ok, Err}
use denote.Enum.Bare.{sameb}
use Rattle.wm_lang.specs.contracts.token.Punct.{the_type}
use Rattle.wm_lang.specs.declared.expression.Identifier.{Identifier}
use Rattle.wm_lang.specs.declared.place.Position.{Position}
use Rattle.wm_lang.specs.declared.token.Punct.{Punct}
use Rattle.wm_lang.specs.declared.token.Token.{Token}
use Rattle.wm_lang.specs.declared.token.TokenKind.{TokenKind}
use Rattle.wm_lang.specs.declared.token.TokenKind.TheVariants as kinds
use Rattle.wm_cursor.specs.declared.fault.ParseFault.{ParseFault}
use Rattle.wm_cursor.specs.declared.fault.ParseFault.TheVariants.{Syntax, NoMemory}
use Rattle.wm_cursor.specs.declared.token.Next.{Next}
use Rattle.wm_cursor.specs.declared.token.Next.TheVariants as next
use Rattle.wm_cursor.specs.declared.token.Tokens.{Tokens}

-- the tokens that are left, and how many there were in all
pub record Input : Type 0 where
  pub left : List Token
  pub total : ℕ

abbrev pub input_of : Tokens → Input
input_of tokens = record { left = tokens.left.now; total = tokens.total }

abbrev pub begin : List Token → Input
begin tokens = record { left = tokens; total = length tokens }

-- ---- the next token

abbrev pub kind_of : TokenKind → Next
kind_of (kinds.Name name) = next.Name
kind_of (kinds.Number value) = next.Number value
kind_of (kinds.Key key) = next.Key key
kind_of (kinds.Punct mark) = next.Mark mark

abbrev pub first_kind : List Token → Next
first_kind [] = next.End
first_kind (token ∷ left) = kind_of token.kind

unfoldable pub peek : Input → Next
peek i = first_kind i.left

unfoldable pub count : Input → ℕ
count i = length i.left

-- the number of the next token
unfoldable pub number : Input → ℕ
number i = i.total - length i.left

abbrev pub position_in : ℕ → List Token → Position
position_in number [] = record { token = number; place = record { file = 0; line = 0; column = 0 } }
position_in number (token ∷ left) = record { token = number; place = token.place }

unfoldable pub position : Input → Position
position i = position_in (number i) i.left

abbrev pub behind : List Token → List Token
behind [] = []
behind (token ∷ left) = left

unfoldable pub after : Input → Input
after i = record { left = behind i.left; total = i.total }

-- whether two marks are the same
unfoldable pub same_mark : Punct → Punct → Bool
same_mark = sameb the_type

abbrev pub is_mark : Punct → Next → Bool
is_mark mark next.End = false
is_mark mark next.Name = false
is_mark mark (next.Number value) = false
is_mark mark (next.Key key) = false
is_mark mark (next.Mark found) = same_mark found mark

unfoldable pub sees : Punct → Input → Bool
sees mark i = is_mark mark (peek i)

unfoldable pub eaten : Punct → Input → Input
eaten mark i = if sees mark i then after i else i

-- ---- readers

-- a reading: what was read and the tokens behind it, or the number of the token that does not fit
abbrev pub Reading : Type 0 → Type 0
Reading A = Result (A × Input) ℕ

abbrev pub Reader : Type 0 → Type 0
Reader A = Input → Reading A

abbrev pub and_then : {A B : Type 0} → Reading A → (A → Reader B) → Reading B
and_then (Ok p) f = f p.0 p.1
and_then (Err token) f = Err token

infixl 10 ◌>>=◌
abbrev pub ◌>>=◌ : {A B : Type 0} → Reader A → (A → Reader B) → Reader B
p >>= f = λ i. and_then (p i) f

infixl 10 ◌>>◌
abbrev pub ◌>>◌ : {A B : Type 0} → Reader A → Reader B → Reader B
p >> q = p >>= (λ _. q)

abbrev pub pure : {A : Type 0} → A → Reader A
pure a = λ i. Ok (a, i)

infixr 11 ◌<$>◌
abbrev pub ◌<$>◌ : {A B : Type 0} → (A → B) → Reader A → Reader B
f <$> p = p >>= (λ x. pure (f x))

-- the next token does not fit
abbrev pub refuse : {A : Type 0} → Reader A
refuse = λ i. Err (number i)

abbrev pub ahead : Reader Next
ahead = λ i. Ok (peek i, i)

abbrev pub here : Reader Position
here = λ i. Ok (position i, i)

-- the next token, whatever it is
abbrev pub take : Reader Position
take = λ i. Ok (position i, after i)

-- whether the next token is this mark, which is then taken
abbrev pub eat : Punct → Reader Bool
eat mark = λ i. Ok (sees mark i, eaten mark i)

abbrev pub seeing : Punct → Reader Bool
seeing mark = λ i. Ok (sees mark i, i)

unfoldable pub expect : Punct → Reader Position
expect mark = λ i. if sees mark i then Ok (position i, after i) else Err (number i)

-- the next token, whatever it is, which opens one of the levels that are left
unfoldable pub enter : ℕ → Reader Position
enter depth = λ i. if depth == 0 then Err (number i) else Ok (position i, after i)

abbrev pub identifier_by : Input → TokenKind → Reading Identifier
identifier_by i (kinds.Name name) = Ok (record { name = name; at = position i }, after i)
identifier_by i (kinds.Number value) = Err (number i)
identifier_by i (kinds.Key key) = Err (number i)
identifier_by i (kinds.Punct mark) = Err (number i)

abbrev pub identifier_in : Input → List Token → Reading Identifier
identifier_in i [] = Err (number i)
identifier_in i (token ∷ left) = identifier_by i token.kind

unfoldable pub identifier : Reader Identifier
identifier i = identifier_in i i.left

-- ---- what a call that reads ensures: the reading, but for want of memory

-- A call that fails has met this fault of the reading, or was refused memory.
abbrev pub Fails : {A : Type 0} → ParseFault → Reading A → Type 0
Fails (Syntax token) reading = reading ≡ Err token
Fails NoMemory reading = Unit {0}

abbrev pub Reads : {A : Type 0} → Reading A → Result A ParseFault → Input → Type 0
Reads reading (Ok a) new = reading ≡ Ok (a, new)
Reads reading (Err fault) new = Fails fault reading
