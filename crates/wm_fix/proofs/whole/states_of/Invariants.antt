use Rattle.std.proofs.Common.{◌≡◌, length}
use Rattle.wm_walk.specs.Graphs.{AreStates}
use Rattle.wm_fix.proofs.whole.states_of.Given as goal

abbrev pub invariant-loop-number : goal.invariant-loop-number
invariant-loop-number g l = record {
  long : length l.states ≡ l.number;
  states : AreStates g.D.Domain.shape_of l.setting.graph.now l.states;
}
