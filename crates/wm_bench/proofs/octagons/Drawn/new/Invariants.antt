use Rattle.std.proofs.Common.{◌≡◌}
use Rattle.wm_bench.proofs.octagons.Drawn.new.Given as goal

abbrev pub invariant-loop-bound : goal.invariant-loop-bound
invariant-loop-bound l = record {
  even : l.even.variables ≡ l.fn.variables;
  odd : l.odd.variables ≡ l.fn.variables;
}
