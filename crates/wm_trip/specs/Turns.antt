-- The turns that a counter allows.
use Rattle.std.specs.Prelude.{ℕ, ◌/◌, if◌then◌else◌, ◌==◌, ℤ, pos, negsuc, Option, Some, None}

-- A counter grows by the step with each turn, and sticks at 2147483647: where it can be there, it bounds no number of turns.
abbrev pub turns_up_to : (high : ℤ) → (step : ℕ) → Option ℕ
turns_up_to (pos high) step = if high == 2147483647 then None else Some (high / step)
turns_up_to (negsuc below) step = None
