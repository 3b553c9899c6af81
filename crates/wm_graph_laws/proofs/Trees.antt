-- The strokes of statements follow each other. Their edges lead to the next node, to a node of the statement, or to where a
-- break, a continue or a return leads; each loop is entered at its head alone, and goes back to it once.
use Rattle.std.proofs.Common.{◌≡◌, ℕ, suc, ◌+◌, ◌<◌, ◌≤◌, Bool, List, [], ◌∷◌, ◌++◌, Option, refl, arith}
use Rattle.wm_ops.specs.declared.words.ControlWord.{ControlWord}
use Rattle.wm_program.specs.Tree.{Expression, Tree, Skip, Seq, Block, Empty, Declare, Act, If, IfElse, For, While, Do, Break, Continue, Return, Leave}
use Rattle.wm_flow.specs.declared.scene.Scene.{Scene}
use Rattle.wm_flow.specs.Places.{Plan, bases_of, head_of}
use Rattle.wm_flow.specs.Expressions.{value, size, narrow_size}
use Rattle.wm_flow.specs.Tests.{test_size}
use Rattle.wm_flow.specs.Effects.{effects_size}
use Rattle.wm_flow.specs.Statements.{made_in, clear_size, word_size, inside, ties_size, Around, in_block, in_loop, placed_size, return_size, return_strokes, tree_size, jump_strokes, tree_strokes}
use Rattle.wm_graph_laws.specs.Each.{Each}
use Rattle.wm_graph_laws.specs.Invoked.{Invokes, TreeInvokes}
use Rattle.wm_graph_laws.specs.Following.{Open, Inside, IsAway, Away, Behind, Follows}
use Rattle.wm_graph_laws.proofs.Joins.{follows_join, join3, join4, join5, join7, join8, join10, point_then, each_both, each_on, away_within}
use Rattle.wm_graph_laws.proofs.Values.{none_follows, narrow_follows, strokes_follow}
use Rattle.wm_graph_laws.proofs.Effects.{effect_follows, effects_follow, declared_follow}
use Rattle.wm_graph_laws.proofs.Tests.{test_follows}
use Rattle.wm_trees.proofs.Sizes.{same_size}
use Rattle.wm_graph_laws.proofs.Pieces.{word_follows, clear_follows, ties_follow, join_follows, placed_follows, jump_follows, enter_follows, turn_follows}

-- the size of a body does not rest on where it leads
in_loop_size : (plan : Plan) (body : Tree) (scene : Scene) (turn over stop again : ℕ) (around : Around) → over ≡ turn + tree_size plan body scene (in_loop 0 0 around) → over ≡ turn + tree_size plan body scene (in_loop stop again around)
in_loop_size plan body scene turn over stop again around e =
    rw (same_size plan body scene 0 0 around.exit stop again around.exit [] (around.near ++ around.far)) at e

-- where a statement may lead lies behind it, and has a property
pub record Leads (P : ℕ → Type 0) (end : ℕ) (around : Around) : Type 0 where
  pub stop : P around.stop
  pub again : P around.again
  pub exit : P around.exit
  pub stop_behind : end ≤ around.stop
  pub again_behind : end ≤ around.again
  pub exit_behind : end ≤ around.exit

leads_on : (P Q : ℕ → Type 0) (end last : ℕ) (around : Around) → last ≤ end → ((t : ℕ) → end ≤ t → P t → Q t) → Leads P end around → Leads Q last around
leads_on P Q end last around less on h =
    record {
      stop = on around.stop h.stop_behind h.stop;
      again = on around.again h.again_behind h.again;
      exit = on around.exit h.exit_behind h.exit;
      stop_behind = omega (arith, h.stop_behind);
      again_behind = omega (arith, h.again_behind);
      exit_behind = omega (arith, h.exit_behind);
    }

leads_in : (P : ℕ → Type 0) (end last : ℕ) (locals : List ℕ) (around : Around) → last ≤ end → Leads P end around → Leads P last (in_block locals around)
leads_in P end last locals around less h =
    record {
      stop = h.stop;
      again = h.again;
      exit = h.exit;
      stop_behind = omega (arith, h.stop_behind);
      again_behind = omega (arith, h.again_behind);
      exit_behind = omega (arith, h.exit_behind);
    }

leads_inside : (P Q : ℕ → Type 0) (end last stop again : ℕ) (around : Around) → last ≤ end → last ≤ stop → last ≤ again → Q stop → Q again → ((t : ℕ) → end ≤ t → P t → Q t) → Leads P end around → Leads Q last (in_loop stop again around)
leads_inside P Q end last stop again around less a b p q on h =
    record {
      stop = p;
      again = q;
      exit = on around.exit h.exit_behind h.exit;
      stop_behind = a;
      again_behind = b;
      exit_behind = omega (arith, h.exit_behind);
    }

module _ (plan : Plan) (May : ℕ → Type 0) where
  -- a break or a continue
  out_follows : (P : ℕ → Type 0) (scene : Scene) (far : List ℕ) (heads : List Open) (is_counted : Bool) (word : ControlWord) (locals : List ℕ) (node target end : ℕ) (K : Behind) → end ≡ node + (word_size is_counted + clear_size plan scene locals + 1) → end ≤ target → P target → Each P far → ((far' : List ℕ) → Each P far' → K (suc end) 0 far' heads) → Follows plan May (jump_strokes plan scene is_counted word locals node target) K (suc node) 0 far heads
  out_follows P scene far heads is_counted word locals node target end K e past p all k =
      let second = node + word_size is_counted in
      let third = second + clear_size plan scene locals in
      join3 plan May _ _ _ K (suc node) 0 far heads
      (word_follows plan May scene far heads is_counted word node second _ refl
      (clear_follows plan May scene far heads locals second 0 third _ refl
      (jump_follows plan May scene P far heads third target end K (omega arith) past p all k)))

  return_follows : (P : ℕ → Type 0) (scene : Scene) (far : List ℕ) (heads : List Open) (around : Around) (x : Expression) (narrowing : Option ℕ) (node end : ℕ) (K : Behind) → Invokes (λ offset. May (scene.instance + offset)) x → Away node end far → end ≡ node + return_size plan scene around x narrowing → end ≤ around.exit → P around.exit → Each P far → ((far' : List ℕ) → Each P far' → K (suc end) 0 far' heads) → Follows plan May (return_strokes plan scene around x narrowing node) K (suc node) 0 far heads
  unfolding return_size return_strokes
  return_follows P scene far heads around x narrowing node end K i away e past p all k =
      let kept = value plan scene x 0 in
      let second = node + size plan scene x 0 in
      let third = second + narrow_size narrowing in
      let fourth = third + placed_size (bases_of plan scene) kept in
      let fifth = fourth + clear_size plan scene (around.near ++ around.far) in
      join5 plan May _ _ _ _ _ K (suc node) 0 far heads
      (strokes_follow plan May scene far heads node end away x node 0 second _ i (omega arith) (omega arith) refl
      (narrow_follows plan May scene far heads narrowing kept second _ third _ refl
      (placed_follows plan May scene far heads kept third fourth _ refl
      (clear_follows plan May scene far heads (around.near ++ around.far) fourth 1 fifth _ refl
      (jump_follows plan May scene P far heads fifth around.exit end K (omega arith) past p all k)))))

  pub tree_follows : (P : ℕ → Type 0) (tree : Tree) (scene : Scene) (around : Around) (node end : ℕ) (far : List ℕ) (heads : List Open) (K : Behind) → TreeInvokes (λ offset. May (scene.instance + offset)) tree → end ≡ node + tree_size plan tree scene around → Away node end far → Each P far → ((t : ℕ) → node < t → t ≤ end → P t) → Leads P end around → ((far' : List ℕ) → Each P far' → K (suc end) 0 far' heads) → Follows plan May (tree_strokes plan tree scene around node) K (suc node) 0 far heads
  unfolding tree_size tree_strokes
  tree_follows P Skip scene around node end far heads K i e away all inner out k =
      none_follows plan May scene far heads node end K (omega arith) (k far all)
  tree_follows P (Seq first rest) scene around node end far heads K i e away all inner out k =
      let mid = node + tree_size plan first scene around in
      let Q : ℕ → Type 0 = λ t. P t × IsAway mid end t in
      follows_join plan May _ _ K (suc node) 0 far heads
      (tree_follows Q first scene around node mid far heads _ i.0 refl (away_within far node end node mid (omega arith) (omega arith) away)
      (each_both P (IsAway mid end) far all (away_within far node end mid end (omega arith) (omega arith) away))
      (λ t a b. (inner t a (omega arith), λ x y. omega arith))
      (leads_on P Q end mid around (omega arith) (λ t a p. (p, λ x y. omega arith)) out)
      (λ far' h. tree_follows P rest scene around mid end far' heads K i.1 (omega arith) (each_on Q (IsAway mid end) far' (λ t x. x.1) h) (each_on Q P far' (λ t x. x.0) h) (λ t a b. inner t (omega arith) b) out k))
  tree_follows P (Block tree) scene around node end far heads K i e away all inner out k =
      let mid = node + tree_size plan tree scene (in_block (made_in tree) around) in
      follows_join plan May _ _ K (suc node) 0 far heads
      (tree_follows P tree scene (in_block (made_in tree) around) node mid far heads _ i refl (away_within far node end node mid (omega arith) (omega arith) away) all
      (λ t a b. inner t a (omega arith)) (leads_in P end mid (made_in tree) around (omega arith) out)
      (λ far' h. clear_follows plan May scene far' heads (made_in tree) mid 0 end K (omega arith) (k far' h)))
  tree_follows P Empty scene around node end far heads K i e away all inner out k =
      none_follows plan May scene far heads node end K (omega arith) (k far all)
  tree_follows P (Declare fresh) scene around node end far heads K i e away all inner out k =
      declared_follow plan May scene far heads node end away fresh node end K i (omega arith) (omega arith) e (k far all)
  tree_follows P (Act effect) scene around node end far heads K i e away all inner out k =
      effect_follows plan May scene far heads node end away effect node end K i (omega arith) (omega arith) e (k far all)
  tree_follows P (If is_counted test first) scene around node end far heads K i e away all inner out k =
      let asked = node + word_size is_counted in
      let last = asked + test_size plan scene test in
      let over = suc last + tree_size plan first scene around in
      let Q : ℕ → Type 0 = λ t. P t × IsAway (suc last) over t in
      join4 plan May _ _ _ _ K (suc node) 0 far heads
      (word_follows plan May scene far heads is_counted _ node asked _ refl
      (test_follows plan May scene heads Q test asked (suc last) (suc over) last _ far i.0 refl (omega arith) (omega arith) (λ same. omega arith)
      (away_within far node end asked last (omega arith) (omega arith) away)
      (each_both P (IsAway (suc last) over) far all (away_within far node end (suc last) over (omega arith) (omega arith) away))
      (λ t a b. (inner t (omega arith) (omega arith), λ x y. omega arith)) (inner (suc last) (omega arith) (omega arith), λ x y. omega arith) (inner (suc over) (omega arith) (omega arith), λ x y. omega arith)
      (λ l far1 h. point_then plan May scene far1 heads _ 0 _ (suc last) l
      (tree_follows P first scene around (suc last) over far1 heads _ i.1 refl (each_on Q (IsAway (suc last) over) far1 (λ t x. x.1) h) (each_on Q P far1 (λ t x. x.0) h)
      (λ t a b. inner t (omega arith) (omega arith)) (leads_on P P end over around (omega arith) (λ t a p. p) out)
      (λ far2 h2. join_follows plan May scene far2 heads over end K (omega arith) (k far2 h2))))))
  tree_follows P (IfElse is_counted test first is_else_counted otherwise) scene around node end far heads K i e away all inner out k =
      let asked = node + word_size is_counted in
      let last = asked + test_size plan scene test in
      let over = suc last + tree_size plan first scene around in
      let other = suc over + word_size is_else_counted in
      let final = other + tree_size plan otherwise scene around in
      let R : ℕ → Type 0 = λ t. P t × IsAway other final t in
      let Q : ℕ → Type 0 = λ t. R t × IsAway (suc last) over t in
      join7 plan May _ _ _ _ _ _ _ K (suc node) 0 far heads
      (word_follows plan May scene far heads is_counted _ node asked _ refl
      (test_follows plan May scene heads Q test asked (suc last) (suc over) last _ far i.0 refl (omega arith) (omega arith) (λ same. omega arith)
      (away_within far node end asked last (omega arith) (omega arith) away)
      (each_both R (IsAway (suc last) over) far (each_both P (IsAway other final) far all (away_within far node end other final (omega arith) (omega arith) away)) (away_within far node end (suc last) over (omega arith) (omega arith) away))
      (λ t a b. ((inner t (omega arith) (omega arith), λ x y. omega arith), λ x y. omega arith)) ((inner (suc last) (omega arith) (omega arith), λ x y. omega arith), λ x y. omega arith) ((inner (suc over) (omega arith) (omega arith), λ x y. omega arith), λ x y. omega arith)
      (λ l far1 h. point_then plan May scene far1 heads _ 0 _ (suc last) l
      (tree_follows R first scene around (suc last) over far1 heads _ i.1 refl (each_on Q (IsAway (suc last) over) far1 (λ t x. x.1) h) (each_on Q R far1 (λ t x. x.0) h)
      (λ t a b. (inner t (omega arith) (omega arith), λ x y. omega arith)) (leads_on P R end over around (omega arith) (λ t a p. (p, λ x y. omega arith)) out)
      (λ far2 h2. jump_follows plan May scene R far2 heads over (suc final) (suc over) _ refl (omega arith) (inner (suc final) (omega arith) (omega arith), λ x y. omega arith) h2
      (λ far3 h3. word_follows plan May scene far3 heads is_else_counted _ (suc over) other _ refl
      (tree_follows P otherwise scene around other final far3 heads _ i.2 refl (each_on R (IsAway other final) far3 (λ t x. x.1) h3) (each_on R P far3 (λ t x. x.0) h3)
      (λ t a b. inner t (omega arith) (omega arith)) (leads_on P P end final around (omega arith) (λ t a p. p) out)
      (λ far4 h4. join_follows plan May scene far4 heads final end K (omega arith) (k far4 h4)))))))))
  tree_follows P (For is_counted loop begin test after body) scene around node end far heads K i e away all inner out k =
      let within = inside scene loop in
      let first = node + word_size is_counted in
      let before = first + effects_size plan scene begin in
      let head = suc before in
      let inner_heads = Inside head (head_of plan.tables scene.instance loop) ∷ heads in
      let asked = head + ties_size plan within in
      let last = asked + test_size plan within test in
      let turn = suc last + ties_size plan within in
      let over = turn + tree_size plan body within (in_loop 0 0 around) in
      let again = suc over in
      let final = again + effects_size plan within after in
      let R : ℕ → Type 0 = λ t. P t × IsAway again final t in
      let Q : ℕ → Type 0 = λ t. R t × IsAway turn over t in
      join10 plan May _ _ _ _ _ _ _ _ _ _ K (suc node) 0 far heads
      (word_follows plan May scene far heads is_counted _ node first _ refl
      (effects_follow plan May scene far heads node end away begin first before _ i.0 (omega arith) (omega arith) refl
      (enter_follows plan May scene far heads node end loop before _ away (omega arith) (omega arith)
      (ties_follow plan May within far inner_heads loop head asked _ refl
      (test_follows plan May within inner_heads Q test asked (suc last) (suc final) last _ far i.1 refl (omega arith) (omega arith) (λ same. omega arith)
      (away_within far node end asked last (omega arith) (omega arith) away)
      (each_both R (IsAway turn over) far (each_both P (IsAway again final) far all (away_within far node end again final (omega arith) (omega arith) away)) (away_within far node end turn over (omega arith) (omega arith) away))
      (λ t a b. ((inner t (omega arith) (omega arith), λ x y. omega arith), λ x y. omega arith)) ((inner (suc last) (omega arith) (omega arith), λ x y. omega arith), λ x y. omega arith) ((inner (suc final) (omega arith) (omega arith), λ x y. omega arith), λ x y. omega arith)
      (λ l far1 h. point_then plan May within far1 inner_heads _ 0 _ (suc last) l
      (ties_follow plan May within far1 inner_heads loop (suc last) turn _ refl
      (tree_follows R body within (in_loop (suc final) again around) turn over far1 inner_heads _ i.3 (in_loop_size plan body within turn over (suc final) again around refl) (each_on Q (IsAway turn over) far1 (λ t x. x.1) h) (each_on Q R far1 (λ t x. x.0) h)
      (λ t a b. (inner t (omega arith) (omega arith), λ x y. omega arith))
      (leads_inside P R end over (suc final) again around (omega arith) (omega arith) (omega arith) (inner (suc final) (omega arith) (omega arith), λ x y. omega arith) (inner again (omega arith) (omega arith), λ x y. omega arith) (λ t a p. (p, λ x y. omega arith)) out)
      (λ far2 h2. join_follows plan May within far2 inner_heads over again _ refl
      (effects_follow plan May within far2 inner_heads again final (each_on R (IsAway again final) far2 (λ t x. x.1) h2) after again final _ i.2 (omega arith) (omega arith) refl
      (turn_follows plan May scene far2 heads loop final head end K (omega arith) (omega arith) (k far2 (each_on R P far2 (λ t x. x.0) h2)))))))))))))
  tree_follows P (While is_counted loop test body) scene around node end far heads K i e away all inner out k =
      let within = inside scene loop in
      let head = suc node in
      let inner_heads = Inside head (head_of plan.tables scene.instance loop) ∷ heads in
      let first = head + ties_size plan within in
      let asked = first + word_size is_counted in
      let last = asked + test_size plan within test in
      let turn = suc last + ties_size plan within in
      let over = turn + tree_size plan body within (in_loop 0 0 around) in
      let again = suc over in
      let Q : ℕ → Type 0 = λ t. P t × IsAway turn over t in
      join8 plan May _ _ _ _ _ _ _ _ K (suc node) 0 far heads
      (enter_follows plan May scene far heads node end loop node _ away (omega arith) (omega arith)
      (ties_follow plan May within far inner_heads loop head first _ refl
      (word_follows plan May within far inner_heads is_counted _ first asked _ refl
      (test_follows plan May within inner_heads Q test asked (suc last) (suc again) last _ far i.0 refl (omega arith) (omega arith) (λ same. omega arith)
      (away_within far node end asked last (omega arith) (omega arith) away)
      (each_both P (IsAway turn over) far all (away_within far node end turn over (omega arith) (omega arith) away))
      (λ t a b. (inner t (omega arith) (omega arith), λ x y. omega arith)) (inner (suc last) (omega arith) (omega arith), λ x y. omega arith) (inner (suc again) (omega arith) (omega arith), λ x y. omega arith)
      (λ l far1 h. point_then plan May within far1 inner_heads _ 0 _ (suc last) l
      (ties_follow plan May within far1 inner_heads loop (suc last) turn _ refl
      (tree_follows P body within (in_loop (suc again) again around) turn over far1 inner_heads _ i.1 (in_loop_size plan body within turn over (suc again) again around refl) (each_on Q (IsAway turn over) far1 (λ t x. x.1) h) (each_on Q P far1 (λ t x. x.0) h)
      (λ t a b. inner t (omega arith) (omega arith))
      (leads_inside P P end over (suc again) again around (omega arith) (omega arith) (omega arith) (inner (suc again) (omega arith) (omega arith)) (inner again (omega arith) (omega arith)) (λ t a p. p) out)
      (λ far2 h2. join_follows plan May within far2 inner_heads over again _ refl
      (turn_follows plan May scene far2 heads loop again head end K (omega arith) (omega arith) (k far2 h2))))))))))
  tree_follows P (Do is_counted is_tail_counted loop body test) scene around node end far heads K i e away all inner out k =
      let within = inside scene loop in
      let before = node + word_size is_counted in
      let head = suc before in
      let inner_heads = Inside head (head_of plan.tables scene.instance loop) ∷ heads in
      let turn = head + ties_size plan within in
      let over = turn + tree_size plan body within (in_loop 0 0 around) in
      let again = suc over in
      let asked = again + word_size is_tail_counted in
      let last = asked + test_size plan within test in
      let hit = suc last in
      let R : ℕ → Type 0 = λ t. P t × IsAway asked last t in
      join8 plan May _ _ _ _ _ _ _ _ K (suc node) 0 far heads
      (word_follows plan May scene far heads is_counted _ node before _ refl
      (enter_follows plan May scene far heads node end loop before _ away (omega arith) (omega arith)
      (ties_follow plan May within far inner_heads loop head turn _ refl
      (tree_follows R body within (in_loop (suc hit) again around) turn over far inner_heads _ i.0 (in_loop_size plan body within turn over (suc hit) again around refl)
      (away_within far node end turn over (omega arith) (omega arith) away)
      (each_both P (IsAway asked last) far all (away_within far node end asked last (omega arith) (omega arith) away))
      (λ t a b. (inner t (omega arith) (omega arith), λ x y. omega arith))
      (leads_inside P R end over (suc hit) again around (omega arith) (omega arith) (omega arith) (inner (suc hit) (omega arith) (omega arith), λ x y. omega arith) (inner again (omega arith) (omega arith), λ x y. omega arith) (λ t a p. (p, λ x y. omega arith)) out)
      (λ far1 h. join_follows plan May within far1 inner_heads over again _ refl
      (word_follows plan May within far1 inner_heads is_tail_counted _ again asked _ refl
      (test_follows plan May within inner_heads P test asked hit (suc hit) last _ far1 i.1 refl (omega arith) (omega arith) (λ same. omega arith)
      (each_on R (IsAway asked last) far1 (λ t x. x.1) h) (each_on R P far1 (λ t x. x.0) h)
      (λ t a b. inner t (omega arith) (omega arith)) (inner hit (omega arith) (omega arith)) (inner (suc hit) (omega arith) (omega arith))
      (λ l far2 h2. point_then plan May within far2 inner_heads _ 0 _ hit l
      (turn_follows plan May scene far2 heads loop hit head end K (omega arith) (omega arith) (k far2 h2))))))))))
  tree_follows P (Break is_counted) scene around node end far heads K i e away all inner out k =
      out_follows P scene far heads is_counted _ around.near node around.stop end K e out.stop_behind out.stop all k
  tree_follows P (Continue is_counted) scene around node end far heads K i e away all inner out k =
      out_follows P scene far heads is_counted _ around.near node around.again end K e out.again_behind out.again all k
  tree_follows P (Return x narrowing) scene around node end far heads K i e away all inner out k =
      return_follows P scene far heads around x narrowing node end K i away e out.exit_behind out.exit all k
  tree_follows P Leave scene around node end far heads K i e away all inner out k =
      let second = node + clear_size plan scene (around.near ++ around.far) in
      follows_join plan May _ _ K (suc node) 0 far heads
      (clear_follows plan May scene far heads (around.near ++ around.far) node 0 second _ refl
      (jump_follows plan May scene P far heads second around.exit end K (omega arith) out.exit_behind out.exit all k))
