use Rattle.std.proofs.Common.{ℕ, ℤ, ◌-◌, ◌<◌, ◌≤◌, length, get_or}
use Rattle.std.proofs.Common.{◌<ℤ◌, ◌≤ℤ◌}
use Rattle.wm_grid.proofs.nearest.count_below.Given as goal

abbrev pub invariant-loop-low : goal.invariant-loop-low
invariant-loop-low l = record {
  order : l.low ≤ l.high;
  within : l.high ≤ length l.numbers;
  below : (k : ℕ) (d : ℤ) → k < l.low → get_or l.numbers k d <ℤ l.fn.z;
  above : (k : ℕ) (d : ℤ) → l.high ≤ k → k < length l.numbers → l.fn.z ≤ℤ get_or l.numbers k d;
}

abbrev pub decreases-loop-low : goal.decreases-loop-low
decreases-loop-low l = l.high - l.low
