-- The lines of sites.
use Rattle.std.specs.Prelude.{ℕ, ◌+◌, ℤ, Bool, true, false, List, [], ◌∷◌, ◌++◌, length, Option, Some, None, codes, decimal, slice_get}
use Rattle.std.specs.Fmt.{signed_decimal}
use Rattle.wm_interval.specs.declared.Interval.{Interval}
use Rattle.wm_ops.specs.Operators.{name_of}
use Rattle.wm_program.specs.declared.program.InstanceInfo.{InstanceInfo}
use Rattle.wm_program.specs.declared.program.Program.{Program}
use Rattle.wm_program.specs.declared.program.SiteInfo.{SiteInfo}
use Rattle.wm_program.specs.declared.program.SiteKind.{SiteKind}
use Rattle.wm_program.specs.declared.program.SiteKind.TheVariants as kind
use Rattle.wm_findings.specs.declared.findings.Verdict.{Verdict}
use Rattle.wm_findings.specs.declared.findings.Verdict.TheVariants.{Safe, Never, Unproved}
use Rattle.wm_findings_text.specs.Places.{place_text, instance_text}

abbrev pub interval_text : Interval → List ℕ
interval_text i = signed_decimal i.low ++ codes ".." ++ signed_decimal i.high

abbrev pub kind_word : SiteKind → List ℕ
kind_word (kind.Operator op) = name_of op
kind_word kind.Index = codes "index"
kind_word kind.View = codes "view"
kind_word kind.Arithmetic = codes "arithmetic"
kind_word kind.Narrowing = codes "narrowing"

-- each with a space before it
unfoldable pub box_text : Interval → List ℕ
box_text i = codes " " ++ interval_text i

unfoldable pub value_text : ℤ → List ℕ
value_text z = codes " " ++ signed_decimal z

abbrev pub boxes_text : List Interval → List ℕ
boxes_text [] = []
boxes_text (i ∷ boxes) = box_text i ++ boxes_text boxes

abbrev pub values_text : List ℤ → List ℕ
values_text [] = []
values_text (z ∷ values) = value_text z ++ values_text values

abbrev pub safe_text : Bool → List ℕ
safe_text true = codes "safe unset"
safe_text false = codes "safe"

-- the boxes, values that fail in them, and the instance
unfoldable pub unproved_text : List (List ℕ) → Program → List Interval → List ℤ → ℕ → List ℕ
unproved_text sources program boxes values instance =
    codes "unproved" ++ boxes_text boxes ++ codes " at" ++ values_text values
    ++ instance_text sources program.instances program.init instance

abbrev pub verdict_text : List (List ℕ) → Program → Verdict → List ℕ
verdict_text sources program (Safe unset) = safe_text unset
verdict_text sources program Never = codes "never"
verdict_text sources program (Unproved boxes values instance) = unproved_text sources program boxes values instance

-- what stands before the verdict of a site; sites count from 1 in a text
unfoldable pub site_head : List (List ℕ) → ℕ → SiteInfo → List ℕ
site_head sources k site =
    codes "site " ++ decimal k ++ codes " " ++ place_text sources site.place ++ codes " " ++ kind_word site.kind ++ codes " "

unfoldable pub site_line : List (List ℕ) → Program → ℕ → SiteInfo → Verdict → List ℕ
site_line sources program k site verdict = site_head sources k site ++ verdict_text sources program verdict ++ codes "\n"

-- the line of the site of number k, from 0; none where it has no verdict
unfoldable pub site_line_of : List (List ℕ) → Program → ℕ → SiteInfo → Option Verdict → List ℕ
site_line_of sources program k site None = []
site_line_of sources program k site (Some verdict) = site_line sources program (k + 1) site verdict

-- a line for each site; the first has the number k, from 0
abbrev pub site_lines : List (List ℕ) → Program → List Verdict → ℕ → List SiteInfo → List ℕ
site_lines sources program verdicts k [] = []
site_lines sources program verdicts k (site ∷ sites) =
    site_line_of sources program k site (slice_get verdicts k) ++ site_lines sources program verdicts (k + 1) sites
