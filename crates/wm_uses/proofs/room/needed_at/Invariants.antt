use Rattle.std.proofs.Common.{◌≡◌, ◌≤◌, take, count_by}
use Rattle.wm_uses.specs.Width.{is_needed}
use Rattle.wm_uses.proofs.room.needed_at.Given as goal

abbrev pub invariant-loop-until : goal.invariant-loop-until
invariant-loop-until l = record {
  so_far : l.count ≡ count_by (is_needed l.node) (take l.until-index l.nodes);
  few : l.count ≤ l.until-index;
}
