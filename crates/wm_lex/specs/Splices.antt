-- A text without its splices: a backslash directly before a line feed, or before a carriage return and a line feed, is taken out
-- with them. What is left keeps the line and column that it has in the file.
use Rattle.std.specs.Prelude.{ℕ, zero, suc, pred, ◌+◌, Bool, ◌&&◌, ◌==◌, if◌then◌else◌, nat_lt, List, [], ◌∷◌, ◌++◌, Option, Some, None, option_to_list}
use Rattle.wm_lex.specs.declared.character.Character.{Character}
use Rattle.wm_lex.specs.declared.splice.Cursor.{Cursor}

-- how many bytes the end of a line takes that stands at the front, 0 where none does
abbrev pub line_end : List ℕ → ℕ
line_end [] = 0
line_end (b ∷ []) = if b == 10 then 1 else 0
line_end (b ∷ c ∷ rest) = if b == 10 then 1 else (if b == 13 && c == 10 then 2 else 0)

-- whether a byte that stands before the rest is the backslash of a splice
abbrev pub begins_splice : ℕ → List ℕ → Bool
begins_splice b rest = b == 92 && nat_lt 0 (line_end rest)

-- the place of a byte that is left
abbrev pub located : Cursor → ℕ → Character
located c b = record { byte = b; line = c.line; column = c.column }

-- the cursor behind a byte of the text that is left
abbrev pub behind : Cursor → ℕ → Cursor
behind c b = if b == 10 then record { line = c.line + 1; column = 1; skip = 0 } else record { line = c.line; column = c.column + 1; skip = 0 }

-- what is left of a byte that stands before the rest
unfoldable pub left_of : Cursor → ℕ → List ℕ → Option Character
left_of c b rest = if nat_lt 0 c.skip then None else (if begins_splice b rest then None else Some (located c b))

-- the cursor behind it
unfoldable pub cursor_after : Cursor → ℕ → List ℕ → Cursor
cursor_after c b rest =
    if nat_lt 0 c.skip then record { line = c.line; column = c.column; skip = pred c.skip }
    else (if begins_splice b rest then record { line = c.line + 1; column = 1; skip = line_end rest } else behind c b)

-- what is left of the bytes from a cursor on
abbrev pub spliced_from : Cursor → List ℕ → List Character
spliced_from c [] = []
spliced_from c (b ∷ rest) = option_to_list (left_of c b rest) ++ spliced_from (cursor_after c b rest) rest

-- the start of a text
abbrev pub start : Cursor
start = record { line = 1; column = 1; skip = 0 }

abbrev pub spliced : List ℕ → List Character
spliced text = spliced_from start text
