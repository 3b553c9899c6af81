-- The verdict of what is known of a site.
use Rattle.std.specs.Prelude.{ℕ, Bool, if◌then◌else◌, nat_lt, take}
use Rattle.wm_findings.specs.declared.findings.Verdict.{Verdict}
use Rattle.wm_findings.specs.declared.findings.Verdict.TheVariants as verdict
use Rattle.wm_tally.specs.declared.seen.Failure.{Failure}
use Rattle.wm_tally.specs.declared.entry.Entry.{Entry}
use Rattle.wm_tally.specs.declared.entry.Standing.{Standing}
use Rattle.wm_tally.specs.declared.entry.Standing.TheVariants as standing

abbrev pub places : Failure → ℕ
places failure = if nat_lt failure.operands 3 then failure.operands else 3

-- one box and one value for each operand
abbrev pub unproved : Failure → (instance : ℕ) → Verdict
unproved failure instance =
    verdict.Unproved (take (places failure) failure.boxes) (take (places failure) failure.values) instance

abbrev pub verdict_with : Bool → Standing → Verdict
verdict_with unset standing.Never = verdict.Never
verdict_with unset standing.Safe = verdict.Safe unset
verdict_with unset (standing.Unproved failure instance) = unproved failure instance

abbrev pub verdict_of : Entry → Verdict
verdict_of entry = verdict_with entry.unset entry.standing
