use Rattle.std.proofs.Common.{◌≡◌, ℕ, ◌<◌, length, true, Some}
use Rattle.std.specs.Prelude.{slice_get}
use Rattle.wm_accept.proofs.walking.mark_all.Given as goal

abbrev pub invariant-loop-place : goal.invariant-loop-place
invariant-loop-place l = record {
  same : length l.marks ≡ length l.fn.marks;
  marked : (k : ℕ) → k < l.place → slice_get l.marks k ≡ Some true;
}
