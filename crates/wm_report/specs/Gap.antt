-- The words of a gap: its head, edge, line and end, what the image has there and what the head allows. Heads, variables
-- and arrays count from 1 in a text.
use Rattle.std.specs.Prelude.{ℕ, ◌+◌, ℤ, List, ◌++◌, Option, Some, None, codes, decimal}
use Rattle.std.specs.Fmt.{signed_decimal}
use Rattle.wm_cert.specs.declared.gap.Gap.{Gap}
use Rattle.wm_cert.specs.declared.gap.Line.{Line}
use Rattle.wm_cert.specs.declared.gap.Line.TheVariants.{Bound, Minus, Plus, Array}
use Rattle.wm_report.specs.Words.{edge_word, end_word}

-- a word and a number, which counts from 0 in the program and from 1 in a text
unfoldable pub numbered : List ℕ → ℕ → List ℕ
numbered word k = word ++ codes " " ++ decimal (k + 1)

unfoldable pub numbered_pair : List ℕ → ℕ → ℕ → List ℕ
numbered_pair word i j = numbered word i ++ codes " " ++ decimal (j + 1)

abbrev pub line_words : Line → List ℕ
line_words (Bound variable) = numbered (codes "bound") variable
line_words (Minus first second) = numbered_pair (codes "minus") first second
line_words (Plus first second) = numbered_pair (codes "plus") first second
line_words (Array array) = numbered (codes "array") array

abbrev pub allowed_word : Option ℤ → List ℕ
allowed_word None = codes "none"
allowed_word (Some z) = signed_decimal z

-- the head and the edge
unfoldable pub gap_edge : Gap → List ℕ
gap_edge gap = numbered (codes "NotInductive head") gap.head ++ codes " " ++ edge_word gap.back

-- the line and the end
unfoldable pub gap_line : Gap → List ℕ
gap_line gap = codes " " ++ line_words gap.line ++ codes " " ++ end_word gap.end

-- the bound of the image and that of the head's state
unfoldable pub gap_bounds : Gap → List ℕ
gap_bounds gap = codes " have " ++ signed_decimal gap.have ++ codes " allowed " ++ allowed_word gap.allowed

unfoldable pub gap_words : Gap → List ℕ
gap_words gap = gap_edge gap ++ gap_line gap ++ gap_bounds gap
