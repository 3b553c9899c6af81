use Rattle.wm_walk.specs.Graphs.{AreStates}
use Rattle.wm_fix.specs.Cores.{AreCores}
use Rattle.wm_fix.proofs.narrow.once.Given as goal

abbrev pub invariant-loop-node : goal.invariant-loop-node
invariant-loop-node g l = record {
  next : AreStates g.D.Domain.shape_of l.setting.apart.now.graph l.next.states.items;
  cores : AreCores g.D.Domain.shape_of l.setting.apart.now.graph l.labels.cores.items;
}
