use Rattle.std.proofs.Common.{◌≡◌, ℕ, ◌<◌, length, None}
use Rattle.std.specs.Prelude.{slice_index_or}
use Rattle.wm_middle.specs.Parting.{IsBack}
use Rattle.wm_middle.proofs.shapes.backs.Given as goal

abbrev pub invariant-loop-v : goal.invariant-loop-v
invariant-loop-v l = record {
  long : length l.places.items ≡ length l.picks;
  each : (w : ℕ) → w < l.v → IsBack l.parts w (slice_index_or l.picks w None) (slice_index_or l.places.items w None);
}
