-- The summary of a generated example: how many sites are safe, are never reached and are not proved, and the bounds.
use Rattle.std.specs.Prelude.{ℕ, Bool, true, false, List, [], ◌∷◌, ◌++◌, length, count_by, codes, decimal}
use Rattle.wm_flow.specs.declared.graph.Bound.{Bound}
use Rattle.wm_findings.specs.declared.findings.Findings.{Findings}
use Rattle.wm_findings.specs.declared.findings.Verdict.{Verdict}
use Rattle.wm_findings.specs.declared.findings.Verdict.TheVariants.{Safe, Never, Unproved}
use Rattle.wm_findings_text.specs.Report.{count_line, bound_text}

abbrev pub is_safe : Verdict → Bool
is_safe (Safe unset) = true
is_safe Never = false
is_safe (Unproved boxes values instance) = false

abbrev pub is_never : Verdict → Bool
is_never (Safe unset) = false
is_never Never = true
is_never (Unproved boxes values instance) = false

abbrev pub is_open : Verdict → Bool
is_open (Safe unset) = false
is_open Never = false
is_open (Unproved boxes values instance) = true

unfoldable pub tally_line : List Verdict → List ℕ
tally_line verdicts =
    codes "sites " ++ decimal (length verdicts) ++ codes " safe " ++ decimal (count_by is_safe verdicts)
    ++ codes " never " ++ decimal (count_by is_never verdicts) ++ codes " unproved " ++ decimal (count_by is_open verdicts) ++ codes "\n"

unfoldable pub plain_line : Bound → List ℕ
plain_line bound = bound_text bound ++ codes "\n"

abbrev pub bounds_text : List Bound → List ℕ
bounds_text [] = []
bounds_text (bound ∷ bounds) = plain_line bound ++ bounds_text bounds

unfoldable pub demo_text : ℕ → Findings → List ℕ
demo_text stages found =
    codes "wmops demo 1\n" ++ count_line (codes "stages") stages ++ tally_line found.sites ++ bounds_text found.bounds
