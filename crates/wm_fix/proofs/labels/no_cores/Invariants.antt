use Rattle.wm_fix.specs.Cores.{AreCores}
use Rattle.wm_fix.proofs.labels.no_cores.Given as goal

abbrev pub invariant-loop-node : goal.invariant-loop-node
invariant-loop-node g l = record {
  cores : AreCores g.D.Domain.shape_of l.graph l.cores.items;
}
