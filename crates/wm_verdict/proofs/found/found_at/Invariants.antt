use Rattle.std.proofs.Common.{◌≡◌, List, Some, length, take}
use Rattle.std.specs.Prelude.{slice_get}
use Rattle.wm_verdict.specs.Sites.{AreFound}
use Rattle.wm_verdict.proofs.found.found_at.Given as goal

abbrev pub invariant-loop-edge : goal.invariant-loop-edge
invariant-loop-edge g l = record {
  count : length l.found.items ≡ l.edge-index;
  are : (labels : List g.row.D.Denot) → slice_get labels l.node ≡ Some l.label → AreFound g.D.Domain.holds l.program l.graph labels (take l.edge-index l.edges) l.found.items;
}
