-- Numbers counted from one of them on, and round.
use Rattle.std.specs.Prelude.{ℕ, ◌+◌, ◌-◌, nat_lt, if◌then◌else◌}

-- the how-manieth number v is of so many, counted from the first one on
abbrev pub place : ℕ → ℕ → ℕ → ℕ
place count first v = if nat_lt v first then v + (count - first) else v - first
