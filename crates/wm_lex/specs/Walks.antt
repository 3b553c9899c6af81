-- The macros by their places, as a walk through their lists goes to them.
use Rattle.std.specs.Prelude.{ℕ, zero, suc, if◌then◌else◌, List, [], ◌∷◌, Option, Some, None, option_map, unwrap_or, is_some, bytes_eq}
use Rattle.wm_lex.specs.declared.definitions.Macro.{Macro}
use Rattle.wm_lex.specs.declared.lexeme.Lexeme.{Lexeme}
use Rattle.wm_lex.specs.declared.lexeme.Lexeme.TheVariants.{Word, Number, Mark}

-- the list of the macro at a place, an empty one where it is not in force
abbrev pub list_at : List Macro → ℕ → List Lexeme
list_at [] place = []
list_at (m ∷ macros) zero = unwrap_or m.lexemes []
list_at (m ∷ macros) (suc place) = list_at macros place

-- the place of a macro in force that has this name
abbrev pub place_in_force : List ℕ → List Macro → Option ℕ
place_in_force word [] = None
place_in_force word (m ∷ macros) = if bytes_eq m.name word then (if is_some m.lexemes then Some 0 else None) else option_map suc (place_in_force word macros)

-- the place of the macro in force that a lexeme is
abbrev pub place_of : List Macro → Lexeme → Option ℕ
place_of macros (Word word) = place_in_force word macros
place_of macros (Number value) = None
place_of macros (Mark mark) = None
