use Rattle.std.proofs.Common.{◌≡◌}
use Rattle.wm_spans.specs.Spanned as spanned
use Rattle.wm_spans.specs.Exact.{Exactly}
use Rattle.wm_tied.specs.Projecting.{AreWithin}
use Rattle.wm_tied.proofs.projecting.cut_all.Given as goal

abbrev pub invariant-loop-k : goal.invariant-loop-k
invariant-loop-k l = record {
  full : l.spans.full ≡ l.fn.spans.full;
  array_full : l.spans.array_full ≡ l.fn.spans.array_full;
  points : Exactly l.spans (AreWithin (spanned.In l.fn.spans) l.ranges l.k);
}
