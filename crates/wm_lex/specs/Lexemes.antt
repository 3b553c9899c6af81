-- Tokens before macro replacement, whose words may be keys, names or macros; and the tokens that they are.
use Rattle.std.specs.Prelude.{ℕ, Bool, true, false, ◌==◌, List, bytes_eq, ℤ, pos, negsuc}
use Rattle.std.specs.Option.{option_map_or}
use Rattle.std.specs.Ordering.{int_eq}
use Rattle.wm_lang.specs.declared.place.Place.{Place}
use Rattle.wm_lang.specs.declared.token.Token.{Token}
use Rattle.wm_lang.specs.declared.token.TokenKind.{TokenKind}
use Rattle.wm_lang.specs.declared.token.TokenKind.TheVariants as kinds
use Rattle.wm_lex.specs.declared.lexeme.Lexeme.{Lexeme}
use Rattle.wm_lex.specs.declared.lexeme.Lexeme.TheVariants.{Word, Number, Mark}
use Rattle.wm_lex.specs.Keys.{key_of}
use Rattle.wm_lex.specs.Punctuation.{mark_number}

-- what a word is that no macro replaces
abbrev pub kind_of_word : List ℕ → TokenKind
kind_of_word word = option_map_or (λ key. kinds.Key key) (key_of word) (kinds.Name word)

abbrev pub kind_of : Lexeme → TokenKind
kind_of (Word word) = kind_of_word word
kind_of (Number value) = kinds.Number value
kind_of (Mark mark) = kinds.Punct mark

abbrev pub token_of : Lexeme → Place → Token
token_of lexeme place = record { kind = kind_of lexeme; place = place }

-- the same kind, with the same word, value or mark
abbrev pub same_lexeme : Lexeme → Lexeme → Bool
same_lexeme (Word a) (Word b) = bytes_eq a b
same_lexeme (Word a) (Number b) = false
same_lexeme (Word a) (Mark b) = false
same_lexeme (Number a) (Word b) = false
same_lexeme (Number a) (Number b) = int_eq a b
same_lexeme (Number a) (Mark b) = false
same_lexeme (Mark a) (Word b) = false
same_lexeme (Mark a) (Number b) = false
same_lexeme (Mark a) (Mark b) = mark_number a == mark_number b
