-- The strokes of an instance follow each other.
use Rattle.std.proofs.Common.{◌≡◌, ℕ, zero, suc, ◌+◌, ◌<◌, ◌≤◌, List, [], ◌∷◌, length, None, refl, ap, arith}
use Rattle.wm_program.specs.Code.{routine_at}
use Rattle.wm_flow.specs.declared.seats.LocalSeat.{LocalSeat}
use Rattle.wm_flow.specs.declared.seats.LocalSeat.TheVariants as local_seat
use Rattle.wm_flow.specs.declared.scene.Scene.{Scene}
use Rattle.wm_flow.specs.Places.{Plan, above_at}
use Rattle.wm_flow.specs.Strokes.{step, nothing}
use Rattle.wm_flow.specs.Calls.{scene_of, seats_of, addressed_among, addressed_in}
use Rattle.wm_flow.specs.Statements.{tree_size}
use Rattle.wm_flow.specs.Parts.{stored_from, stored_parameters, storing_from, at_exit, part_size, part_strokes}
use Rattle.wm_graph_laws.specs.Each.{Each}
use Rattle.wm_graph_laws.specs.Manner.{manner}
use Rattle.wm_graph_laws.specs.Invoked.{TreeInvokes}
use Rattle.wm_graph_laws.specs.Following.{Open, Away, Behind, Follows}
use Rattle.wm_graph_laws.proofs.Joins.{follows_join, join3, point_then, step_to, away_within}
use Rattle.wm_graph_laws.proofs.Values.{none_follows}
use Rattle.wm_trees.proofs.Sizes.{same_size}
use Rattle.wm_graph_laws.proofs.Trees.{tree_follows}

stored_length : (seats : List LocalSeat) (count above : ℕ) (behind : List ℕ) → length (stored_from seats count above behind) ≡ addressed_among seats count + length behind
stored_length [] count above behind = omega arith
stored_length (seat ∷ rest) zero above behind = omega arith
stored_length (local_seat.Scalar k ∷ rest) (suc count) above behind = stored_length rest count above behind
stored_length (local_seat.Array k ∷ rest) (suc count) above behind = omega (arith, stored_length rest count above ((above + k) ∷ behind))

module _ (plan : Plan) (May : ℕ → Type 0) where
  storing_follow : (scene : Scene) (far : List ℕ) (heads : List Open) (arrays : List ℕ) (node end : ℕ) (K : Behind) → end ≡ node + length arrays → K (suc end) 0 far heads → Follows plan May (storing_from plan scene arrays node) K (suc node) 0 far heads
  unfolding manner
  storing_follow scene far heads [] node end K e h = none_follows plan May scene far heads node end K (omega arith) h
  storing_follow scene far heads (array ∷ rest) node end K e h =
      follows_join plan May _ _ K (suc node) 0 far heads
      (step_to plan May scene far heads node (suc node) _ _ _ _ refl refl
      (storing_follow scene far heads rest (suc node) end K (omega arith) h))

  last_follows : (scene : Scene) (far : List ℕ) (heads : List Open) (temporaries node end : ℕ) (K : Behind) → end ≡ suc node → K (suc end) 0 far heads → Follows plan May (step plan scene node nothing None temporaries) K (suc node) 0 far heads
  unfolding manner
  last_follows scene far heads temporaries node end K e h = step_to plan May scene far heads node end _ _ _ K refl e h

  pub part_follows : (P : ℕ → Type 0) (instance start least end : ℕ) (far : List ℕ) (heads : List Open) (K : Behind) → TreeInvokes (λ offset. May (instance + offset)) (routine_at plan.code (scene_of plan instance).function).body → end ≡ start + part_size plan instance → Away start end far → Each P far → ((t : ℕ) → start < t → t ≤ end → P t) → ((far' : List ℕ) → Each P far' → K (suc end) 0 far' heads) → Follows plan May (part_strokes plan instance start) K start least far heads
  unfolding part_size part_strokes
  part_follows P instance start least end far heads K i e away all inner k =
      let scene = scene_of plan instance in
      let body = (routine_at plan.code scene.function).body in
      let first = start + addressed_in plan scene.function in
      let over = first + tree_size plan body scene (at_exit 0) in
      let stored : first ≡ start + length (stored_parameters plan scene) = omega (arith, stored_length (seats_of plan scene.function) (routine_at plan.code scene.function).parameters (above_at plan.tables instance) []) in
      let sized : over ≡ first + tree_size plan body scene (at_exit (suc over)) = ap (λ n. first + n) (same_size plan body scene 0 0 0 (suc over) (suc over) (suc over) [] []) in
      join3 plan May _ _ _ K start least far heads
      (point_then plan May scene far heads _ _ _ start least
      (storing_follow scene far heads (stored_parameters plan scene) start first _ stored
      (tree_follows plan May P body scene (at_exit (suc over)) first over far heads _ i sized
      (away_within far start end first over (omega arith) (omega arith) away) all
      (λ t a b. inner t (omega arith) (omega arith))
      (record {
        stop = inner (suc over) (omega arith) (omega arith);
        again = inner (suc over) (omega arith) (omega arith);
        exit = inner (suc over) (omega arith) (omega arith);
        stop_behind = omega arith;
        again_behind = omega arith;
        exit_behind = omega arith;
      })
      (λ far1 h. last_follows scene far1 heads _ over end K (omega arith) (k far1 h)))))
