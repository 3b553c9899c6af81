-- The strokes of the small pieces of statements follow each other.
use Rattle.std.proofs.Common.{◌≡◌, ℕ, suc, ◌+◌, ◌<◌, ◌≤◌, Bool, List, [], ◌∷◌, length, refl, arith}
use Rattle.std.specs.Prelude.{◌==◌}
use Rattle.wm_ops.specs.declared.words.ControlWord.{ControlWord}
use Rattle.wm_flow.specs.declared.graph.Sum.{Sum}
use Rattle.wm_flow.specs.declared.kept.Kept.{Kept}
use Rattle.wm_flow.specs.declared.scene.Scene.{Scene}
use Rattle.wm_flow.specs.Places.{Plan, bases_of, first_sum, head_of}
use Rattle.wm_flow.specs.Strokes.{point}
use Rattle.wm_flow.specs.Statements.{variables_of, clear_of, clear_size, clearing, clear_strokes, word_size, word_strokes, sums_of, resetting, turning, ties_from, ties_size, ties_strokes, enter_strokes, turn_strokes, jump, join, stands, placed_size, placed_strokes}
use Rattle.wm_graph_laws.specs.Each.{Each}
use Rattle.wm_graph_laws.specs.Manner.{Manner, Into, Back, Onward, manner}
use Rattle.wm_graph_laws.specs.Following.{Open, Entered, Inside, Turned, Begun, Ended, IsAway, Away, landed, Behind, Led, Follows}
use Rattle.wm_graph_laws.proofs.Joins.{follows_join, step_to, if_follows, led_onward, each_landed, each_on}
use Rattle.wm_graph_laws.proofs.Values.{none_follows, temporary_follows}

led_into : (m : Manner) (K : Behind) (nodes : ℕ) (far : List ℕ) (heads : List Open) → m ≡ Into → Each (λ t. t ≡ nodes → ⊥) far → K nodes (suc nodes) far (Entered nodes ∷ heads) → Led m K nodes 0 far heads nodes
unfolding Led
led_into Into K nodes far heads e h k = (refl, refl, h, k)
led_into Back K nodes far heads e h k = cc
led_into Onward K nodes far heads e h k = cc

led_back : (m : Manner) (K : Behind) (nodes : ℕ) (far : List ℕ) (heads : List Open) (head number : ℕ) → m ≡ Back → head < nodes → K nodes (suc head) far (Turned head number ∷ heads) → Led m K nodes 0 far (Inside head number ∷ heads) head
unfolding Led
led_back Into K nodes far heads head number e h k = cc
led_back Back K nodes far heads head number e h k = (refl, h, omega arith, k)
led_back Onward K nodes far heads head number e h k = cc

module _ (plan : Plan) (May : ℕ → Type 0) (scene : Scene) where
  pub word_follows : (far : List ℕ) (heads : List Open) (is_counted : Bool) (word : ControlWord) (node end : ℕ) (K : Behind) → end ≡ node + word_size is_counted → K (suc end) 0 far heads → Follows plan May (word_strokes plan scene is_counted word node) K (suc node) 0 far heads
  unfolding word_strokes manner
  word_follows far heads is_counted word node end K e h =
      if_follows plan May scene far heads is_counted _ _ 1 0 node end K (suc node) 0 e
      (λ e. step_to plan May scene far heads node end _ _ _ K refl (omega arith) h)
      (λ e. none_follows plan May scene far heads node end K (omega arith) h)

  clearing_follows : (far : List ℕ) (heads : List Open) (variables : List ℕ) (node temporaries end : ℕ) (K : Behind) → end ≡ node + clear_of variables → K (suc end) 0 far heads → Follows plan May (clearing plan scene variables node temporaries) K (suc node) 0 far heads
  unfolding manner
  clearing_follows far heads [] node temporaries end K e h = none_follows plan May scene far heads node end K (omega arith) h
  clearing_follows far heads (v ∷ rest) node temporaries end K e h = step_to plan May scene far heads node end _ _ _ K refl (omega arith) h

  pub clear_follows : (far : List ℕ) (heads : List Open) (locals : List ℕ) (node temporaries end : ℕ) (K : Behind) → end ≡ node + clear_size plan scene locals → K (suc end) 0 far heads → Follows plan May (clear_strokes plan scene locals node temporaries) K (suc node) 0 far heads
  unfolding clear_size clear_strokes
  clear_follows far heads locals node temporaries end K e h =
      clearing_follows far heads (variables_of plan scene locals) node temporaries end K e h

  ties_from_follow : (far : List ℕ) (heads : List Open) (loop v : ℕ) (sums : List Sum) (node end : ℕ) (K : Behind) → end ≡ node + length sums → K (suc end) 0 far heads → Follows plan May (ties_from plan scene loop v sums node) K (suc node) 0 far heads
  unfolding manner
  ties_from_follow far heads loop v [] node end K e h = none_follows plan May scene far heads node end K (omega arith) h
  ties_from_follow far heads loop v (sum ∷ rest) node end K e h =
      follows_join plan May _ _ K (suc node) 0 far heads
      (step_to plan May scene far heads node (suc node) _ _ _ _ refl refl
      (ties_from_follow far heads loop (suc v) rest (suc node) end K (omega arith) h))

  pub ties_follow : (far : List ℕ) (heads : List Open) (loop : ℕ) (node end : ℕ) (K : Behind) → end ≡ node + ties_size plan scene → K (suc end) 0 far heads → Follows plan May (ties_strokes plan scene loop node) K (suc node) 0 far heads
  unfolding ties_strokes
  ties_follow far heads loop node end K e h =
      ties_from_follow far heads loop (first_sum (bases_of plan scene)) (sums_of plan scene) node end K e h

  pub join_follows : (far : List ℕ) (heads : List Open) (node end : ℕ) (K : Behind) → end ≡ suc node → K (suc end) 0 far heads → Follows plan May (join plan scene node) K (suc node) 0 far heads
  unfolding manner
  join_follows far heads node end K e h = step_to plan May scene far heads node end _ _ _ K refl e h

  pub placed_follows : (far : List ℕ) (heads : List Open) (kept : Kept) (node end : ℕ) (K : Behind) → end ≡ node + placed_size (bases_of plan scene) kept → K (suc end) 0 far heads → Follows plan May (placed_strokes plan scene kept node) K (suc node) 0 far heads
  placed_follows far heads kept node end K e h =
      if_follows plan May scene far heads (stands (bases_of plan scene) kept) _ _ 0 1 node end K (suc node) 0 e
      (λ e. none_follows plan May scene far heads node end K (omega arith) h)
      (λ e. temporary_follows plan May scene far heads node end 0 kept K (omega arith) h)

  -- an edge to a node further on
  pub jump_follows : (P : ℕ → Type 0) (far : List ℕ) (heads : List Open) (node target end : ℕ) (K : Behind) → end ≡ suc node → end ≤ target → P target → Each P far → ((far' : List ℕ) → Each P far' → K (suc end) 0 far' heads) → Follows plan May (jump plan scene node target) K (suc node) 0 far heads
  unfolding point Follows manner
  jump_follows P far heads node target end K e past p all k = (
    refl,
    led_onward _ _ (suc node) 0 far heads target refl (omega arith) (omega arith)
        (rw e at k (landed (target == suc node) target far) (each_landed P (target == suc node) target far p all)),
  )

  -- the edge into a loop
  pub enter_follows : (far : List ℕ) (heads : List Open) (low high loop node : ℕ) (K : Behind) → Away low high far → low ≤ node → suc node < high → K (suc (suc node)) 0 far (Inside (suc node) (head_of plan.tables scene.instance loop) ∷ heads) → Follows plan May (enter_strokes plan scene loop node) K (suc node) 0 far heads
  unfolding enter_strokes point Follows Begun resetting manner
  enter_follows far heads low high loop node K away from upto h =
      (refl, led_into _ _ (suc node) far heads refl (each_on (IsAway low high) (λ t. t ≡ suc node → ⊥) far (λ t apart same. apart (omega arith) (omega arith)) away) (refl, refl, h))

  -- the back edge
  pub turn_follows : (far : List ℕ) (heads : List Open) (loop node head end : ℕ) (K : Behind) → head ≤ node → end ≡ suc node → K (suc end) 0 far heads → Follows plan May (turn_strokes plan scene loop node head) K (suc node) 0 far (Inside head (head_of plan.tables scene.instance loop) ∷ heads)
  unfolding turn_strokes point Follows Ended turning manner
  turn_follows far heads loop node head end K before e h =
      (refl, led_back _ _ (suc node) far heads head _ refl (omega arith) (refl, refl, rw e at h))
