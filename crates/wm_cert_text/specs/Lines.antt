-- The lines of a head. What counts from 0 in the program counts from 1 in a text.
use Rattle.std.specs.Prelude.{ℕ, ◌+◌, List, [], ◌∷◌, ◌++◌, codes, decimal}
use Rattle.std.specs.Fmt.{signed_decimal}
use Rattle.wm_cert_text.specs.declared.told.Ends.{Ends}
use Rattle.wm_cert_text.specs.declared.told.Cells.{Cells}
use Rattle.wm_cert_text.specs.declared.told.Cells.TheVariants as cells
use Rattle.wm_cert_text.specs.declared.told.Kind.{Kind}
use Rattle.wm_cert_text.specs.declared.told.Kind.TheVariants.{Minus, Plus}
use Rattle.wm_cert_text.specs.declared.told.Pair.{Pair}
use Rattle.wm_cert_text.specs.declared.told.SumStep.{SumStep}

-- a word and a number
unfoldable pub numbered : List ℕ → ℕ → List ℕ
numbered word k = word ++ codes " " ++ decimal k

-- the two ends of a range, up to the end of the line
unfoldable pub ends_words : Ends → List ℕ
ends_words ends = codes " " ++ signed_decimal ends.low ++ codes " " ++ signed_decimal ends.high ++ codes "\n"

unfoldable pub bound_line : ℕ → Ends → List ℕ
bound_line variable ends = numbered (codes "bound") variable ++ ends_words ends

abbrev pub kind_word : Kind → List ℕ
kind_word Minus = codes "minus"
kind_word Plus = codes "plus"

unfoldable pub pair_line : Pair → List ℕ
pair_line pair =
    numbered (kind_word pair.kind) (pair.first + 1) ++ codes " " ++ decimal (pair.second + 1) ++ ends_words pair.ends

abbrev pub cells_words : Cells → List ℕ
cells_words cells.Empty = codes " empty\n"
cells_words (cells.Range ends) = ends_words ends

unfoldable pub array_line : ℕ → Cells → List ℕ
array_line array held = numbered (codes "array") array ++ cells_words held

unfoldable pub sum_line : SumStep → List ℕ
sum_line sum = numbered (codes "sum") (sum.variable + 1) ++ codes " " ++ decimal sum.step ++ codes "\n"

-- ---- lists of lines, the first of which has the number k

abbrev pub bound_lines : ℕ → List Ends → List ℕ
bound_lines k [] = []
bound_lines k (ends ∷ rest) = bound_line k ends ++ bound_lines (k + 1) rest

abbrev pub pair_lines : List Pair → List ℕ
pair_lines [] = []
pair_lines (pair ∷ rest) = pair_line pair ++ pair_lines rest

abbrev pub array_lines : ℕ → List Cells → List ℕ
array_lines k [] = []
array_lines k (held ∷ rest) = array_line k held ++ array_lines (k + 1) rest

abbrev pub sum_lines : List SumStep → List ℕ
sum_lines [] = []
sum_lines (sum ∷ rest) = sum_line sum ++ sum_lines rest
