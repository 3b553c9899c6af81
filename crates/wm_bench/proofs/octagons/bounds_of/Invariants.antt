use Rattle.std.proofs.Common.{All}
use Rattle.wm_bench.specs.Octagons.{IsOf}
use Rattle.wm_bench.proofs.octagons.bounds_of.Given as goal

abbrev pub invariant-loop : goal.invariant-loop
invariant-loop l = All (IsOf l.variables) l.all.items
