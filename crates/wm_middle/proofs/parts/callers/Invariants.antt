use Rattle.std.proofs.Common.{◌≡◌, ℕ, ◌<◌, length, None}
use Rattle.std.specs.Prelude.{slice_index_or}
use Rattle.wm_middle.specs.Parting.{caller_of, part_at}
use Rattle.wm_middle.proofs.parts.callers.Given as goal

abbrev pub invariant-loop-k : goal.invariant-loop-k
invariant-loop-k l = record {
  long : length l.picks.items ≡ length l.parts;
  each : (j : ℕ) → j < l.k → slice_index_or l.picks.items j None ≡ caller_of (part_at l.parts j);
}
