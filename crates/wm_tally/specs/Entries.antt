-- What is known of a site after each of its edges.
use Rattle.std.specs.Prelude.{ℕ, Bool, true, false, if◌then◌else◌, nat_lt}
use Rattle.wm_tally.specs.declared.seen.Failure.{Failure}
use Rattle.wm_tally.specs.declared.seen.Seen.{Seen}
use Rattle.wm_tally.specs.declared.seen.Seen.TheVariants as seen
use Rattle.wm_tally.specs.declared.entry.Entry.{Entry}
use Rattle.wm_tally.specs.declared.entry.Standing.{Standing}
use Rattle.wm_tally.specs.declared.entry.Standing.TheVariants as standing

abbrev pub first_entry : Entry
first_entry = record { standing = standing.Never; unset = false }

-- the failure of the lesser instance; of two in one instance the one that was seen first
abbrev pub standing_failing : Standing → Failure → (instance : ℕ) → Standing
standing_failing standing.Never failure instance = standing.Unproved failure instance
standing_failing standing.Safe failure instance = standing.Unproved failure instance
standing_failing (standing.Unproved before first) failure instance =
    if nat_lt instance first then standing.Unproved failure instance else standing.Unproved before first

abbrev pub standing_fine : Standing → Standing
standing_fine standing.Never = standing.Safe
standing_fine standing.Safe = standing.Safe
standing_fine (standing.Unproved failure instance) = standing.Unproved failure instance

abbrev pub entry_after : Entry → (instance : ℕ) → Seen → Entry
entry_after entry instance seen.Away = entry
entry_after entry instance seen.Fine = record { standing = standing_fine entry.standing; unset = entry.unset }
entry_after entry instance (seen.Failing failure) =
    record { standing = standing_failing entry.standing failure instance; unset = entry.unset }
entry_after entry instance seen.Unset = record { standing = entry.standing; unset = true }
