-- The marks of the profile by their bytes.
use Rattle.std.specs.Prelude.{ℕ, ◌&&◌, ◌==◌, if◌then◌else◌, List, [], ◌∷◌, Option, Some, None}
use Rattle.wm_lang.specs.declared.token.Punct.{Punct}
use Rattle.wm_lang.specs.declared.token.Punct.TheVariants.{Arrow, PlusAssign, MinusAssign, TimesAssign, Increment, Decrement, LessEqual, GreaterEqual, Equal, NotEqual, And, Or, LeftParenthesis, RightParenthesis, LeftBracket, RightBracket, LeftBrace, RightBrace, Semicolon, Comma, Assign, Plus, Minus, Star, Slash, Less, Greater, Not, Ampersand, Dot}
use Rattle.wm_lex.specs.declared.punctuation.Pair.{Pair}
use Rattle.wm_lex.specs.declared.punctuation.Single.{Single}

abbrev pub pair : ℕ → ℕ → Punct → Pair
pair first second mark = record { first = first; second = second; mark = mark }

abbrev pub single : ℕ → Punct → Single
single byte mark = record { byte = byte; mark = mark }

-- -> += -= *= ++ -- <= >= == != && ||
abbrev pub pairs : List Pair
pairs =
    pair 45 62 Arrow ∷
    pair 43 61 PlusAssign ∷
    pair 45 61 MinusAssign ∷
    pair 42 61 TimesAssign ∷
    pair 43 43 Increment ∷
    pair 45 45 Decrement ∷
    pair 60 61 LessEqual ∷
    pair 62 61 GreaterEqual ∷
    pair 61 61 Equal ∷
    pair 33 61 NotEqual ∷
    pair 38 38 And ∷
    pair 124 124 Or ∷
    []

-- ( ) [ ] { } ; , = + - * / < > ! & .
abbrev pub singles : List Single
singles =
    single 40 LeftParenthesis ∷
    single 41 RightParenthesis ∷
    single 91 LeftBracket ∷
    single 93 RightBracket ∷
    single 123 LeftBrace ∷
    single 125 RightBrace ∷
    single 59 Semicolon ∷
    single 44 Comma ∷
    single 61 Assign ∷
    single 43 Plus ∷
    single 45 Minus ∷
    single 42 Star ∷
    single 47 Slash ∷
    single 60 Less ∷
    single 62 Greater ∷
    single 33 Not ∷
    single 38 Ampersand ∷
    single 46 Dot ∷
    []

-- the first of these marks that has these two bytes
abbrev pub pair_in : List Pair → ℕ → ℕ → Option Punct
pair_in [] first second = None
pair_in (row ∷ rows) first second = if row.first == first && row.second == second then Some row.mark else pair_in rows first second

-- the first of these marks that has this byte
abbrev pub single_in : List Single → ℕ → Option Punct
single_in [] byte = None
single_in (row ∷ rows) byte = if row.byte == byte then Some row.mark else single_in rows byte

unfoldable pub pair_mark : ℕ → ℕ → Option Punct
pair_mark first second = pair_in pairs first second

unfoldable pub single_mark : ℕ → Option Punct
single_mark byte = single_in singles byte

-- a number for each mark, which tells it from the others
abbrev pub mark_number : Punct → ℕ
mark_number Arrow = 0
mark_number PlusAssign = 1
mark_number MinusAssign = 2
mark_number TimesAssign = 3
mark_number Increment = 4
mark_number Decrement = 5
mark_number LessEqual = 6
mark_number GreaterEqual = 7
mark_number Equal = 8
mark_number NotEqual = 9
mark_number And = 10
mark_number Or = 11
mark_number LeftParenthesis = 12
mark_number RightParenthesis = 13
mark_number LeftBracket = 14
mark_number RightBracket = 15
mark_number LeftBrace = 16
mark_number RightBrace = 17
mark_number Semicolon = 18
mark_number Comma = 19
mark_number Assign = 20
mark_number Plus = 21
mark_number Minus = 22
mark_number Star = 23
mark_number Slash = 24
mark_number Less = 25
mark_number Greater = 26
mark_number Not = 27
mark_number Ampersand = 28
mark_number Dot = 29
