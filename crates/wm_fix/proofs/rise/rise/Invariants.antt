use Rattle.wm_walk.specs.Graphs.{AreStates}
use Rattle.wm_fix.specs.Cores.{AreCores}
use Rattle.wm_fix.proofs.rise.rise.Given as goal

abbrev pub invariant-loop-step : goal.invariant-loop-step
invariant-loop-step g l = record {
  states : AreStates g.D.Domain.shape_of l.setting.apart.now.graph l.risen.states.items;
  cores : AreCores g.D.Domain.shape_of l.setting.apart.now.graph l.labels.cores.items;
}
