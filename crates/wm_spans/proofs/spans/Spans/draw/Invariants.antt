use Rattle.std.proofs.Common.{◌≡◌}
use Rattle.wm_spans.specs.Spanned.{In}
use Rattle.wm_spans.specs.Exact.{Exactly, AreCut}
use Rattle.wm_spans.proofs.spans.Spans.draw.Given as goal

abbrev pub invariant-loop-k : goal.invariant-loop-k
invariant-loop-k l = record {
  full : l.spans.full ≡ l.fn.spans.full;
  array_full : l.spans.array_full ≡ l.fn.spans.array_full;
  points : Exactly l.spans (AreCut (In l.fn.spans) l.self l.picks l.k);
}
