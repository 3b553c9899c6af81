-- The text of a certificate.
use Rattle.std.specs.Prelude.{ℕ, Bool, true, false, ◌||◌, List, [], ◌∷◌, ◌++◌, length, codes, decimal}
use Rattle.wm_cert_text.specs.declared.told.Head.{Head}
use Rattle.wm_cert_text.specs.declared.told.SumStep.{SumStep}
use Rattle.wm_cert_text.specs.Heads.{head_texts}

abbrev pub has_any : List SumStep → Bool
has_any [] = false
has_any (sum ∷ rest) = true

-- whether some head has sum counters
abbrev pub has_sums : List Head → Bool
has_sums [] = false
has_sums (head ∷ rest) = has_any head.sums || has_sums rest

-- the second version of the text is the one with sum counters
abbrev pub version_line : Bool → List ℕ
version_line false = codes "wmops certificate 1\n"
version_line true = codes "wmops certificate 2\n"

unfoldable pub count_line : ℕ → List ℕ
count_line heads = codes "heads " ++ decimal heads ++ codes "\n"

unfoldable pub certificate_text : List Head → List ℕ
certificate_text heads =
    version_line (has_sums heads) ++ count_line (length heads) ++ head_texts 1 heads ++ codes "end\n"
