-- The range of the object `call`: the numbers of the frame functions.
use Rattle.std.specs.Prelude.{ℕ, max, pos, ◌≤ℤ◌, List, length}
use Rattle.std.proofs.Common.{arith}
use Rattle.std.proofs.lemmas.Int.{ints}
use Rattle.wm_interval.specs.declared.Interval.{Interval}
use Rattle.wm_program.specs.declared.program.InputInfo.{InputInfo}

pub one_least : (n : ℕ) → pos 1 ≤ℤ pos (max n 1)
one_least n = omega (arith, ints)

-- 1 to the number of the functions, of which there are several
abbrev pub call_range : ℕ → Interval
call_range count = record { low = pos 1; high = pos (max count 1); ordered = one_least count }

-- the input `call`, first of the inputs
abbrev pub call_input : ℕ → List ℕ → InputInfo
call_input object frames = record { object = object; range = call_range (length frames) }
