use Rattle.std.proofs.Common.{◌≡◌, ◌++◌, length, drop}
use Rattle.wm_cert_states.specs.Shapes.{head_shapes, state_shapes}
use Rattle.wm_cert_states.specs.Told.{AreTold}
use Rattle.wm_cert_states.proofs.heads.head_states.Given as goal

abbrev pub invariant-loop-head : goal.invariant-loop-head
invariant-loop-head g l = record {
  at : l.number ≡ l.head-index;
  count : length l.states ≡ l.head-index;
  left : state_shapes g.D.Domain.shape_of l.states ++ head_shapes l.graph (drop l.head-index l.graph.heads) ≡ head_shapes l.graph l.graph.heads;
  told : AreTold g.D.Domain.shape_of g.D.Domain.holds l.told l.states;
}
