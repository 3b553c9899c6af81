use Rattle.std.proofs.Common.{◌≡◌, length}
use Rattle.wm_walk.specs.Graphs.{AreStates}
use Rattle.wm_fix.proofs.states.bare_states.Given as goal

abbrev pub invariant-loop-head : goal.invariant-loop-head
invariant-loop-head g l = record {
  long : length l.states.items ≡ l.head-index;
  states : AreStates g.D.Domain.shape_of l.graph l.states.items;
}
