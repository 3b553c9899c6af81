-- What the lines of a text do to the macros and the tokens.
use Rattle.std.specs.Prelude.{ℕ, suc, Bool, true, false, ◌&&◌, ◌||◌, ◌==◌, not, if◌then◌else◌, List, [], ◌∷◌, ◌++◌, Option, Some, None, Result, Ok, Err, bytes_eq, codes}
use Rattle.wm_lang.specs.declared.place.Place.{Place}
use Rattle.wm_lang.specs.declared.token.Token.{Token}
use Rattle.wm_lang.specs.declared.token.Punct.TheVariants.{LeftParenthesis}
use Rattle.wm_lex.specs.declared.character.Character.{Character}
use Rattle.wm_lex.specs.declared.definitions.Macro.{Macro}
use Rattle.wm_lex.specs.declared.fault.LexFault.{LexFault}
use Rattle.wm_lex.specs.declared.fault.LexFault.TheVariants.{OpenComment, BadDirective, MacroLoop, TooManyTokens}
use Rattle.wm_lex.specs.declared.lexeme.Lexeme.{Lexeme}
use Rattle.wm_lex.specs.declared.lexeme.Lexeme.TheVariants.{Word, Number, Mark}
use Rattle.wm_lex.specs.declared.piece.PieceKind.{PieceKind}
use Rattle.wm_lex.specs.declared.piece.PieceKind.TheVariants.{Whole, Hash, BadByte, BadNumber}
use Rattle.wm_lex.specs.declared.piece.Piece.{Piece}
use Rattle.wm_lex.specs.declared.state.State.{State}
use Rattle.wm_lex.specs.Answers.{◌>>=◌}
use Rattle.wm_lex.specs.Characters.{place_of}
use Rattle.wm_lex.specs.Comments.{uncommented, last_region, opened}
use Rattle.wm_lex.specs.Lexemes.{same_lexeme}
use Rattle.wm_lex.specs.Macros.{defined, first_macros, list_of, is_named, with_macro, without_macro}
use Rattle.wm_lex.specs.Pieces.{is_hash, lexeme_of, pieces}
use Rattle.wm_lex.specs.Punctuation.{mark_number}
use Rattle.wm_lex.specs.Replacing.{Made, replaced, loops}
use Rattle.wm_lex.specs.Splices.{spliced}

-- how far the texts are read: the macros, the tokens, and how many tokens and replaced names there is room for
pub record Progress : Type 0 where
  pub macros : List Macro
  pub tokens : List Token
  pub room : ℕ

abbrev pub progress_of : State → Progress
progress_of state = record { macros = state.definitions; tokens = state.tokens.items; room = state.room }

abbrev pub with_macros : Progress → List Macro → Progress
with_macros progress macros = record { macros = macros; tokens = progress.tokens; room = progress.room }

-- ---- lines of text

abbrev pub with_made : Progress → Place → Option Made → Result Progress LexFault
with_made progress place None = Err (TooManyTokens place)
with_made progress place (Some made) = Ok (record { macros = progress.macros; tokens = made.tokens; room = made.room })

-- a lexeme of a text
unfoldable pub after_lexeme : Progress → Place → Lexeme → Result Progress LexFault
after_lexeme progress place lexeme =
    if loops progress.macros lexeme then Err (MacroLoop place)
    else with_made progress place (replaced progress.macros place progress.room progress.tokens (lexeme ∷ []))

abbrev pub after_pieces : Progress → List Piece → Result Progress LexFault
after_pieces progress [] = Ok progress
after_pieces progress (piece ∷ left) = (lexeme_of piece >>= after_lexeme progress piece.place) >>= λ next. after_pieces next left

-- ---- directives

abbrev pub word_of : Lexeme → Option (List ℕ)
word_of (Word word) = Some word
word_of (Number value) = None
word_of (Mark mark) = None

-- the word that a piece is
abbrev pub word_in : PieceKind → Option (List ℕ)
word_in (Whole lexeme) = word_of lexeme
word_in Hash = None
word_in BadByte = None
word_in BadNumber = None

abbrev pub is_left_parenthesis : Lexeme → Bool
is_left_parenthesis (Word word) = false
is_left_parenthesis (Number value) = false
is_left_parenthesis (Mark mark) = mark_number mark == mark_number LeftParenthesis

-- whether a piece is a left parenthesis
abbrev pub is_parenthesis : PieceKind → Bool
is_parenthesis (Whole lexeme) = is_left_parenthesis lexeme
is_parenthesis Hash = false
is_parenthesis BadByte = false
is_parenthesis BadNumber = false

-- whether the pieces behind a name begin with a parenthesis directly behind it
abbrev pub opens_directly : List Piece → Bool
opens_directly [] = false
opens_directly (piece ∷ left) = not piece.spaced && is_parenthesis piece.kind

-- whether a piece is this lexeme
abbrev pub is_lexeme : Lexeme → PieceKind → Bool
is_lexeme lexeme (Whole other) = same_lexeme lexeme other
is_lexeme lexeme Hash = false
is_lexeme lexeme BadByte = false
is_lexeme lexeme BadNumber = false

-- whether pieces are these lexemes
abbrev pub are_lexemes : List Lexeme → List Piece → Bool
are_lexemes [] [] = true
are_lexemes [] (piece ∷ left) = false
are_lexemes (lexeme ∷ more) [] = false
are_lexemes (lexeme ∷ more) (piece ∷ left) = is_lexeme lexeme piece.kind && are_lexemes more left

-- whether pieces are the list that a word has
abbrev pub is_list : Option (List Lexeme) → List Piece → Bool
is_list None left = false
is_list (Some list) left = are_lexemes list left

-- the lexemes of pieces, or the first fault among them
abbrev pub lexemes_of : List Piece → Result (List Lexeme) LexFault
lexemes_of [] = Ok []
lexemes_of (piece ∷ left) = lexeme_of piece >>= λ lexeme. lexemes_of left >>= λ more. Ok (lexeme ∷ more)

-- A define gives a word its list. A word that a define has given a list keeps it: the same list again has no effect, and
-- another list, or one with a fault, is a bad directive.
abbrev pub after_list : List Macro → Place → List ℕ → List Piece → Result (List Macro) LexFault
after_list macros hash word left =
    if is_named word macros
    then (if is_list (list_of word macros) left then Ok macros else Err (BadDirective hash))
    else (lexemes_of left >>= λ list. Ok (with_macro (defined word list) macros))

abbrev pub after_name : List Macro → Place → Option (List ℕ) → List Piece → Result (List Macro) LexFault
after_name macros hash None left = Err (BadDirective hash)
after_name macros hash (Some word) left = if opens_directly left then Err (BadDirective hash) else after_list macros hash word left

-- the macros behind `#define`
unfoldable pub after_define : List Macro → Place → List Piece → Result (List Macro) LexFault
after_define macros hash [] = Err (BadDirective hash)
after_define macros hash (piece ∷ left) = after_name macros hash (word_in piece.kind) left

abbrev pub without_word : List Macro → Place → Option (List ℕ) → Result (List Macro) LexFault
without_word macros hash None = Err (BadDirective hash)
without_word macros hash (Some word) = Ok (without_macro word macros)

-- the macros behind `#undef`
unfoldable pub after_undef : List Macro → Place → List Piece → Result (List Macro) LexFault
after_undef macros hash [] = Err (BadDirective hash)
after_undef macros hash (piece ∷ []) = without_word macros hash (word_in piece.kind)
after_undef macros hash (piece ∷ other ∷ left) = Err (BadDirective hash)

-- `#include` and `#pragma` lines are passed over
abbrev pub is_passed_over : List ℕ → Bool
is_passed_over word = bytes_eq word (codes "include") || bytes_eq word (codes "pragma")

abbrev pub after_word : List Macro → Place → Option (List ℕ) → List Piece → Result (List Macro) LexFault
after_word macros hash None left = Err (BadDirective hash)
after_word macros hash (Some word) left =
    if is_passed_over word then Ok macros
    else (if bytes_eq word (codes "define") then after_define macros hash left
    else (if bytes_eq word (codes "undef") then after_undef macros hash left
    else Err (BadDirective hash)))

-- the macros behind a directive, whose `#` stands at hash before these pieces; a `#` alone has no effect
unfoldable pub after_hash : List Macro → Place → List Piece → Result (List Macro) LexFault
after_hash macros hash [] = Ok macros
after_hash macros hash (piece ∷ left) = after_word macros hash (word_in piece.kind) left

-- ---- lines and texts

-- a line whose first token is `#` is a directive, any other is text
unfoldable pub after_line_pieces : Progress → List Piece → Result Progress LexFault
after_line_pieces progress [] = Ok progress
after_line_pieces progress (piece ∷ left) = if is_hash piece.kind then (after_hash progress.macros piece.place left >>= λ macros. Ok (with_macros progress macros)) else after_pieces progress (piece ∷ left)

abbrev pub after_line : ℕ → Progress → List Character → Result Progress LexFault
after_line file progress line = after_line_pieces progress (pieces file line)

-- the line so far goes on to the next line feed or the end
abbrev pub after_lines : ℕ → Progress → List Character → List Character → Result Progress LexFault
after_lines file progress line [] = after_line file progress line
after_lines file progress line (c ∷ rest) =
    if c.byte == 10 then (after_line file progress line >>= λ next. after_lines file next [] rest)
    else after_lines file progress (line ++ c ∷ []) rest

-- a comment that is open at the end of its text
abbrev pub unless_open : ℕ → Progress → Option Character → Result Progress LexFault
unless_open file progress None = Ok progress
unless_open file progress (Some first) = Err (OpenComment (place_of file first))

unfoldable pub after_text : ℕ → Progress → List ℕ → Result Progress LexFault
after_text file progress text =
    after_lines file progress [] (uncommented (spliced text)) >>= λ next. unless_open file next (opened (last_region (spliced text)))

abbrev pub after_texts : ℕ → Progress → List (List ℕ) → Result Progress LexFault
after_texts file progress [] = Ok progress
after_texts file progress (text ∷ texts) = after_text file progress text >>= λ next. after_texts (suc file) next texts

abbrev pub at_start : Progress
at_start = record { macros = first_macros; tokens = []; room = 1000000 }

-- The tokens of texts after macro replacement, or the fault at the least place: reading goes on from left to right, and ends at the
-- first fault, and no part of a text puts a fault before the place that it has come to.
unfoldable pub tokens_of : List (List ℕ) → Result (List Token) LexFault
tokens_of texts = after_texts 0 at_start texts >>= λ progress. Ok progress.tokens
