-- The text of the shifts.
use Rattle.std.specs.Prelude.{◌≡◌, ℕ, ◌+◌, List, [], ◌∷◌, ◌++◌, Option, Some, None, codes, decimal, slice_get, slice_index_or}
use Rattle.wm_lang.specs.declared.place.Place.{Place}
use Rattle.wm_ops.specs.declared.operators.Op.{Op}
use Rattle.wm_ops.specs.Operators.{name_of}
use Rattle.wm_program.specs.declared.program.Program.{Program}
use Rattle.wm_program.specs.declared.program.SiteInfo.{SiteInfo}
use Rattle.wm_program.specs.declared.spec.Spec.{Spec}
use Rattle.wm_findings.specs.declared.findings.Findings.{Findings}
use Rattle.wm_findings.specs.declared.findings.Verdict.{Verdict}
use Rattle.wm_findings_text.specs.Places.{place_text}
use Rattle.wm_headroom_text.specs.Open.{Open, open_in, AreShifts}

abbrev pub shift_text : Option ℕ → List ℕ
shift_text None = codes "none"
shift_text (Some places) = decimal places

-- sites count from 1 in a text
unfoldable pub shift_line : List (List ℕ) → ℕ → Place → Op → Option ℕ → List ℕ
shift_line sources k place op shift =
    codes "site " ++ decimal k ++ codes " " ++ place_text sources place ++ codes " " ++ name_of op ++ codes " shift " ++ shift_text shift
    ++ codes "\n"

abbrev pub open_line : List (List ℕ) → ℕ → Place → Option Open → Option ℕ → List ℕ
open_line sources k place None shift = []
open_line sources k place (Some it) shift = shift_line sources k place it.op shift

-- the line of what is open at the site of number k, from 0
unfoldable pub site_line : List (List ℕ) → ℕ → SiteInfo → Option Verdict → Option ℕ → List ℕ
site_line sources k site verdict shift = open_line sources (k + 1) site.place (open_in site.kind verdict) shift

-- a line for each site at which something is open; the first has the number k, from 0
abbrev pub shift_lines : List (List ℕ) → List Verdict → List (Option ℕ) → ℕ → List SiteInfo → List ℕ
shift_lines sources verdicts shifts k [] = []
shift_lines sources verdicts shifts k (site ∷ sites) =
    site_line sources k site (slice_get verdicts k) (slice_index_or shifts k None) ++ shift_lines sources verdicts shifts (k + 1) sites

unfoldable pub text_with : List (Option ℕ) → Program → Spec → Findings → List ℕ
text_with shifts program spec found = codes "wmops headroom 1\n" ++ shift_lines spec.sources found.sites shifts 0 program.sites

-- the text with the least shift of each operator that is not proved
pub record IsHeadroomText (program : Program) (spec : Spec) (found : Findings) (text : List ℕ) : Type 0 where
  pub shifts : List (Option ℕ)
  pub least : AreShifts program.sites found.sites shifts
  pub told : text ≡ text_with shifts program spec found
