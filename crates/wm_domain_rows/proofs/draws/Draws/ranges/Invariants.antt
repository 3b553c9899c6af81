use Rattle.std.proofs.Common.{◌≡◌, All, length}
use Rattle.wm_domain.specs.Points.{IsNarrow}
use Rattle.wm_domain_rows.proofs.draws.Draws.ranges.Given as goal

abbrev pub invariant-loop : goal.invariant-loop
invariant-loop l = record {
  long : length l.ranges ≡ l.counter;
  narrow : All IsNarrow l.ranges;
}
