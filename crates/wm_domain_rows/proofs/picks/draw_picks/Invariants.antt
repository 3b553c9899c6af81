use Rattle.std.proofs.Common.{◌≡◌, ◌≤◌, length}
use Rattle.wm_domain_rows.proofs.Differing.{AreDrawn}
use Rattle.wm_domain_rows.proofs.picks.draw_picks.Given as goal

abbrev pub invariant-loop : goal.invariant-loop
invariant-loop l = record {
  long : length l.picks.items ≡ l.counter;
  next : l.next ≤ l.counter;
  drawn : AreDrawn l.count l.first l.next l.picks.items;
}
