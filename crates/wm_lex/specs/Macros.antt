-- The macros that were ever defined, and their lists where they are in force.
use Rattle.std.specs.Prelude.{ℕ, suc, Bool, true, false, ◌&&◌, not, if◌then◌else◌, List, [], ◌∷◌, Option, Some, None, option_map, is_some, bytes_eq, codes, pos}
use Rattle.wm_lang.specs.declared.token.Punct.TheVariants.{LeftParenthesis, RightParenthesis, Minus}
use Rattle.wm_lex.specs.declared.definitions.Macro.{Macro}
use Rattle.wm_lex.specs.declared.lexeme.Lexeme.{Lexeme}
use Rattle.wm_lex.specs.declared.lexeme.Lexeme.TheVariants.{Word, Number, Mark}

abbrev pub defined : List ℕ → List Lexeme → Macro
defined word lexemes = record { name = word; lexemes = Some lexemes; is_first = false }

-- one of the four macros that are defined at the start
abbrev pub first_macro : List ℕ → List Lexeme → Macro
first_macro word lexemes = record { name = word; lexemes = Some lexemes; is_first = true }

abbrev pub first_macros : List Macro
first_macros =
    first_macro (codes "MAX_16") (Number (pos 32767) ∷ []) ∷
    first_macro (codes "MIN_16") (Mark LeftParenthesis ∷ Mark Minus ∷ Number (pos 32768) ∷ Mark RightParenthesis ∷ []) ∷
    first_macro (codes "MAX_32") (Number (pos 2147483647) ∷ []) ∷
    first_macro (codes "MIN_32") (Mark LeftParenthesis ∷ Mark Minus ∷ Number (pos 2147483647) ∷ Mark Minus ∷ Number (pos 1) ∷ Mark RightParenthesis ∷ []) ∷
    []

-- the list that replaces a word, none where it is no macro in force
abbrev pub list_of : List ℕ → List Macro → Option (List Lexeme)
list_of word [] = None
list_of word (m ∷ macros) = if bytes_eq m.name word then m.lexemes else list_of word macros

-- whether a word is a macro in force that a define has named
abbrev pub is_named : List ℕ → List Macro → Bool
is_named word [] = false
is_named word (m ∷ macros) = if bytes_eq m.name word then is_some m.lexemes && not m.is_first else is_named word macros

-- the macros where this one replaces that of its name, or is new
abbrev pub with_macro : Macro → List Macro → List Macro
with_macro new [] = new ∷ []
with_macro new (m ∷ macros) = if bytes_eq m.name new.name then new ∷ macros else m ∷ with_macro new macros

-- a macro that is no more in force
abbrev pub ended : Macro → Macro
ended m = record { name = m.name; lexemes = None; is_first = m.is_first }

-- the macros where that of the word is no more in force
abbrev pub without_macro : List ℕ → List Macro → List Macro
without_macro word [] = []
without_macro word (m ∷ macros) = if bytes_eq m.name word then ended m ∷ macros else m ∷ without_macro word macros

-- the place of the macro that has this name
abbrev pub place_in : List ℕ → List Macro → Option ℕ
place_in word [] = None
place_in word (m ∷ macros) = if bytes_eq m.name word then Some 0 else option_map suc (place_in word macros)
