-- The arguments of an operator in their boxes.
use Rattle.std.specs.Prelude.{ℕ, ℤ, pos, ◌≡◌, ◌⊎◌, ◌<ℤ◌, ◌≤ℤ◌, List, if◌then◌else◌, nat_lt}
use Rattle.std.specs.List.{slice_index_or}
use Rattle.wm_interval.specs.Holds.{Holds}
use Rattle.wm_interval.specs.declared.Interval.{Interval}
use Rattle.wm_ops.specs.Arguments.{ArgsFit}
use Rattle.wm_ops.specs.Operators.{arity_of}
use Rattle.wm_ops.specs.declared.operators.Op.{Op}

-- the interval of 0 alone
abbrev pub zero_box : Interval
zero_box = record { low = pos 0; high = pos 0; ordered = record { le = tt } }

-- the box of the operator's argument k: in a place that the operator does not use it holds 0 alone
abbrev pub used_box : Op → List Interval → ℕ → Interval
used_box op boxes k = if nat_lt k (arity_of op) then slice_index_or boxes k zero_box else zero_box

-- the boxes lie in the operator's argument types
pub record BoxesFit (op : Op) (x y z : Interval) : Type 0 where
  pub low_ends : ArgsFit op x.low y.low z.low
  pub high_ends : ArgsFit op x.high y.high z.high

-- each of three arguments lies in its box
pub record InBoxes (x y z : Interval) (a b c : ℤ) : Type 0 where
  pub first : Holds x a
  pub second : Holds y b
  pub third : Holds z c

-- in lexicographic order the arguments a, b, c do not come after d, e, f
abbrev pub IsNotAfter : ℤ → ℤ → ℤ → ℤ → ℤ → ℤ → Type 0
IsNotAfter a b c d e f = (a <ℤ d) ⊎ ((a ≡ d) × ((b <ℤ e) ⊎ ((b ≡ e) × (c ≤ℤ f))))
