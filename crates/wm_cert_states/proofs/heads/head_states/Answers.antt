use Rattle.std.proofs.Common.{◌≡◌, ◌∙◌, sym, subst, ap, ℕ, ◌+◌, ◌<◌, List, ◌++◌, length, drop, get_or, Option, Some}
use Rattle.std.specs.Prelude.{slice_get}
use Rattle.wm_flow.specs.declared.graph.Head as graphs
use Rattle.wm_cert_text.specs.declared.told.Head as texts
use Rattle.wm_state_of.specs.Meeting.{IsStateOf}
use Rattle.wm_cert_states.specs.Shapes.{shape_at, head_shapes, state_shapes}
use Rattle.wm_cert_states.specs.Told.{AreTold}
use Rattle.wm_cert_states.proofs.Pushed.{told_pushed, shapes_pushed, count_pushed}
use Rattle.wm_cert_states.proofs.heads.head_states.Goals as goal

pub loop-head-preserved : goal.loop-head-preserved
loop-head-preserved g c =
    let grown = c.in_ok-push.ensures.grown in
    let same = c.items-head-items.ensures.items in
    let at = c.loop-head.invariant.at in
    let state = c.in_ok-head_state.field-0 in
    record {
      at = ap (λ (n : ℕ). n + 1) at;
      count = ap length grown ∙ count_pushed c.loop-head.head-index c.loop-head.states state c.loop-head.invariant.count;
      left = ap (λ xs. state_shapes g.D.Domain.shape_of xs ++ head_shapes c.args.graph.now (drop (c.loop-head.head-index + 1) c.args.graph.now.heads)) grown
          ∙ shapes_pushed g.D.Domain.shape_of c.args.graph.now c.args.graph.now.heads c.loop-head.head-index record { node = 0; instance = Option.None; loop_id = Option.None; entry = 0; back = 0 } c.loop-head.states state (head_shapes c.args.graph.now c.args.graph.now.heads)
          (subst (λ (xs : List graphs.Head). c.loop-head.head-index < length xs) same c.loop-head-test.true)
          (subst (λ (xs : List graphs.Head). shape_at c.args.graph.now (get_or xs c.loop-head.head-index record { node = 0; instance = Option.None; loop_id = Option.None; entry = 0; back = 0 }).node ≡ Some (g.D.Domain.shape_of state)) same c.in_ok-head_state.ensures.shape)
          c.loop-head.invariant.left;
      told = subst (λ xs. AreTold g.D.Domain.shape_of g.D.Domain.holds c.args.told.now xs) (sym grown)
          (told_pushed g.D.Domain.shape_of g.D.Domain.holds c.loop-head.head-index c.args.told.now c.loop-head.states state c.loop-head.invariant.count
          (subst (λ (n : ℕ). (it : texts.Head) → slice_get c.args.told.now n ≡ Some it → IsStateOf (g.D.Domain.shape_of state) it.state (g.D.Domain.holds state)) at c.in_ok-head_state.ensures.told)
          c.loop-head.invariant.told);
    }
