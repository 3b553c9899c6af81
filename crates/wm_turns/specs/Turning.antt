-- The greatest turns of a loop over all its heads that are live.
use Rattle.std.specs.Prelude.{ℕ, suc, max, Bool, false, if◌then◌else◌, ◌==◌, List, [], ◌∷◌, Option, Some, None, slice_index_or}
use Rattle.wm_flow.specs.declared.graph.Head.{Head}
use Rattle.wm_findings.specs.declared.findings.Turns.{Turns}
use Rattle.wm_findings.specs.declared.findings.Turns.TheVariants as turn

-- one head more, with so many turns or no bound on them
abbrev pub with_turns : Option ℕ → Turns → Turns
with_turns None found = turn.None
with_turns (Some n) turn.Never = turn.Most n
with_turns (Some n) turn.None = turn.None
with_turns (Some n) (turn.Most m) = turn.Most (max m n)

abbrev pub of_loop : Option ℕ → (loop_id : ℕ) → Option ℕ → Turns → Turns
of_loop None loop_id turns found = found
of_loop (Some own) loop_id turns found = if own == loop_id then with_turns turns found else found

abbrev pub of_live : Bool → Option ℕ → (loop_id : ℕ) → Option ℕ → Turns → Turns
of_live live own loop_id turns found = if live then of_loop own loop_id turns found else found

-- the same of the heads from a number on
abbrev pub turns_from : (loop_id : ℕ) → List (Option ℕ) → List Bool → (number : ℕ) → List Head → Turns → Turns
turns_from loop_id turns live number [] found = found
turns_from loop_id turns live number (head ∷ rest) found =
    turns_from loop_id turns live (suc number) rest
    (of_live (slice_index_or live head.entry false) head.loop_id loop_id (slice_index_or turns number None) found)

-- never where no head of the loop is live; none where some such head has no bound on its turns
abbrev pub turns_of : (loop_id : ℕ) → List (Option ℕ) → List Bool → List Head → Turns
turns_of loop_id turns live heads = turns_from loop_id turns live 0 heads turn.Never
