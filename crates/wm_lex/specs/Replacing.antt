-- What replaces a lexeme of a text, by the macros in force.
use Rattle.std.specs.Prelude.{ℕ, zero, suc, ◌+◌, Bool, not, is_none, List, [], ◌∷◌, ◌++◌, length, Option, Some, None, unwrap_or}
use Rattle.std.specs.List.{list_all}
use Rattle.wm_lang.specs.declared.place.Place.{Place}
use Rattle.wm_lang.specs.declared.token.Token.{Token}
use Rattle.wm_lex.specs.declared.definitions.Macro.{Macro}
use Rattle.wm_lex.specs.declared.lexeme.Lexeme.{Lexeme}
use Rattle.wm_lex.specs.declared.lexeme.Lexeme.TheVariants.{Word, Number, Mark}
use Rattle.wm_lex.specs.Lexemes.{token_of}
use Rattle.wm_lex.specs.Macros.{list_of}

-- the list that replaces a lexeme, none where it is no macro in force
abbrev pub replacement_of : List Macro → Lexeme → Option (List Lexeme)
replacement_of macros (Word word) = list_of word macros
replacement_of macros (Number value) = None
replacement_of macros (Mark mark) = None

-- a token, unless a list replaces it
abbrev pub token_unless : Option (List Lexeme) → Token → List Token
token_unless None token = token ∷ []
token_unless (Some list) token = []

-- tokens, and how many tokens and replaced names there is room for behind them
pub record Made : Type 0 where
  pub tokens : List Token
  pub room : ℕ

abbrev pub made : List Token → ℕ → Made
made tokens room = record { tokens = tokens; room = room }

-- The first lexeme of a list is replaced by its list, which is looked at again before the others, or is a token. Either takes one
-- from the room; none where there is no room for what is left. The tokens have the place of the name in the text.
unfoldable pub replaced : List Macro → Place → ℕ → List Token → List Lexeme → Option Made
replaced macros place room tokens [] = Some (made tokens room)
replaced macros place zero tokens (lexeme ∷ left) = None
replaced macros place (suc room) tokens (lexeme ∷ left) =
    replaced macros place room (tokens ++ token_unless (replacement_of macros lexeme) (token_of lexeme place)) (unwrap_or (replacement_of macros lexeme) [] ++ left)

-- Whether every path from a lexeme through the lists of the macros goes through fewer replaced words than this.
unfoldable pub ends : List Macro → ℕ → Lexeme → Bool
ends macros zero lexeme = is_none (replacement_of macros lexeme)
ends macros (suc words) lexeme = list_all (ends macros words) (unwrap_or (replacement_of macros lexeme) [])

-- how many names and lexemes there are in the macros, and one more for each
abbrev pub sizes_of : List Macro → ℕ
sizes_of [] = 0
sizes_of (m ∷ macros) = length (unwrap_or m.lexemes []) + 2 + sizes_of macros

-- A path of so many words is longer than there are macros, so it meets a macro twice; any greater number serves as well.
unfoldable pub path_bound : List Macro → ℕ
path_bound macros = 1000001 + sizes_of macros

-- Whether a lexeme is a macro that reaches itself, or reaches one that does: some path from it never ends.
abbrev pub loops : List Macro → Lexeme → Bool
loops macros lexeme = not (ends macros (path_bound macros) lexeme)
