use Rattle.wm_fix.specs.Cores.{AreCores}
use Rattle.wm_fix.proofs.nodes.pass.Given as goal

abbrev pub invariant-loop-ended : goal.invariant-loop-ended
invariant-loop-ended g l = record {
  cores : AreCores g.D.Domain.shape_of l.setting.apart.now.graph l.labels.cores.items;
}
