use Rattle.std.proofs.Common.{◌≡◌, All, length}
use Rattle.wm_octagon.specs.Ranges.{IsNarrow}
use Rattle.wm_enumerate.proofs.sample.draw_ranges.Given as goal

abbrev pub invariant-loop : goal.invariant-loop
invariant-loop l = record {
  long : length l.ranges.items ≡ l.counter;
  narrow : All IsNarrow l.ranges.items;
}
