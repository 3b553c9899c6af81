use Rattle.std.proofs.Common.{◌≡◌, ℕ, ◌<◌, Some, length}
use Rattle.std.specs.Prelude.{slice_get}
use Rattle.wm_labels.specs.Live.{AreNoted}
use Rattle.wm_accept.specs.declared.entries.Entry.TheVariants.{Held}
use Rattle.wm_accept.specs.Entries.{IsClosed}
use Rattle.wm_accept.proofs.gaps.first_gap.Given as goal

abbrev pub invariant-loop-place : goal.invariant-loop-place
invariant-loop-place g l = record {
  same : length l.live ≡ length l.fn.live;
  noted : AreNoted g.M.Images.allowed g.D.Domain.holds g.D.Domain.shape_of l.graph l.kept.1 l.fn.live l.live;
  entries : (k : ℕ) → k < l.place → slice_get l.entries k ≡ Some Held;
  closed : (k : ℕ) → k < l.place → IsClosed g.M.Images.allowed g.D.Domain.holds g.D.Domain.shape_of l.graph l.states l.kept.1 k;
}
