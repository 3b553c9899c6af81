-- The strokes of conditions follow each other. Their edges lead to the next node, to a node between, or to one of the two
-- nodes where they end.
use Rattle.std.proofs.Common.{◌≡◌, ℕ, suc, ◌+◌, ◌<◌, ◌≤◌, Bool, true, false, List, [], ◌∷◌, Option, Some, None, refl, arith}
use Rattle.std.proofs.lemmas.Bool.Decides.{nat_tests}
use Rattle.std.specs.Prelude.{if◌then◌else◌, ◌==◌, nat_lt}
use Rattle.wm_ops.specs.declared.operators.Op.TheVariants as ops
use Rattle.wm_program.specs.declared.tree.Comparison.{Comparison}
use Rattle.wm_program.specs.declared.tree.Comparison.TheVariants as compare
use Rattle.wm_program.specs.Tree.{Expression, Test, Operator, Always, Either, Both, Not, Compare, Truth}
use Rattle.wm_flow.specs.declared.kept.Kept.{Kept}
use Rattle.wm_flow.specs.declared.scene.Scene.{Scene}
use Rattle.wm_flow.specs.declared.scene.Sides.{Sides}
use Rattle.wm_flow.specs.Plain.{Doing}
use Rattle.wm_flow.specs.Places.{Plan, bases_of}
use Rattle.wm_flow.specs.Strokes.{Line, nothing}
use Rattle.wm_flow.specs.Yields.{coming, yield_size}
use Rattle.wm_flow.specs.Expressions.{value, values_after, size, sizes, no_values, left_waiting}
use Rattle.wm_flow.specs.Tests.{keeping, fork, is_apart, goes, side_size, side_strokes, sides_size, sides_strokes, Compared, Plainly, Number, Applied, Subtraction, subtraction, is_nought, applied, compared, compared_number, sides_of, mark_of, evaluation_size, evaluation_strokes, compared_size, compared_strokes, test_size, test_strokes, from_right}
use Rattle.wm_graph_laws.specs.Each.{Each}
use Rattle.wm_graph_laws.specs.Manner.{Onward, manner}
use Rattle.wm_graph_laws.specs.Invoked.{Invokes, InvokesAmong, TestInvokes}
use Rattle.wm_graph_laws.specs.Following.{Open, IsAway, Away, landed, Behind, Follows}
use Rattle.wm_graph_laws.proofs.Joins.{follows_join, join3, point_then, led_onward, each_landed, each_both, each_on, away_within, if_follows}
use Rattle.wm_graph_laws.proofs.Values.{none_follows, temporary_follows, yield_follows, operate_follows, strokes_follow, all_follow}

-- ---- what is compared

module _ (May : ℕ → Type 0) where
  abbrev pub ComparedInvokes : Compared → Type 0
  ComparedInvokes (Plainly x mark y) = Invokes May x × Invokes May y
  ComparedInvokes (Number x) = Invokes May x
  ComparedInvokes (Applied op args site mark) = InvokesAmong May args

  abbrev SubtractionInvokes : Option Subtraction → Type 0
  SubtractionInvokes None = Unit {0}
  SubtractionInvokes (Some it) = InvokesAmong May it.arguments

  subtraction_invokes : (x : Expression) → Invokes May x → SubtractionInvokes (subtraction x)
  subtraction_invokes (Operator ops.Sub args site) h = h
  subtraction_invokes (Operator ops.LSub args site) h = h
  subtraction_invokes _ h = tt

  applied_invokes : (it : Option Subtraction) (mark : Comparison) (otherwise : Compared) → SubtractionInvokes it → ComparedInvokes otherwise → ComparedInvokes (applied it mark otherwise)
  applied_invokes None mark otherwise h i = i
  applied_invokes (Some it) mark otherwise h i = h

  chosen_invokes : (b : Bool) (one other : Compared) → ComparedInvokes one → ComparedInvokes other → ComparedInvokes (if b then one else other)
  chosen_invokes true one other h i = h
  chosen_invokes false one other h i = i

  pub compared_invokes : (x : Expression) (mark : Comparison) (y : Expression) → Invokes May x → Invokes May y → ComparedInvokes (compared x mark y)
  unfolding compared
  compared_invokes x mark y h i =
      chosen_invokes (is_nought y) _ _ (applied_invokes (subtraction x) mark (Plainly x mark y) (subtraction_invokes x h) (h, i))
      (chosen_invokes (is_nought x) _ _ (applied_invokes (subtraction y) (from_right mark) (Plainly x mark y) (subtraction_invokes y i) (h, i)) (h, i))

  pub number_invokes : (x : Expression) → Invokes May x → ComparedInvokes (compared_number x)
  unfolding compared_number
  number_invokes x h = applied_invokes (subtraction x) compare.NotEqual (Number x) (subtraction_invokes x h) h

keeping_goes : (mark : Comparison) (difference : Kept) → manner (keeping mark difference) ≡ Onward
unfolding manner keeping
keeping_goes compare.Less difference = refl
keeping_goes compare.LessEqual difference = refl
keeping_goes compare.Greater difference = refl
keeping_goes compare.GreaterEqual difference = refl
keeping_goes compare.Equal difference = refl
keeping_goes compare.NotEqual difference = refl

below : (a b : ℕ) → nat_lt a b ≡ true → a < b
below a b e = grind (arith, nat_tests)

not_below : (a b : ℕ) → nat_lt a b ≡ false → b ≤ a
not_below a b e = grind (arith, nat_tests)

module _ (plan : Plan) (May : ℕ → Type 0) (scene : Scene) (heads : List Open) where
  -- two edges from a node
  pair_follows : (P : ℕ → Type 0) (node first second : ℕ) (one other : Doing) (K : Behind) (far : List ℕ) → manner one ≡ Onward → manner other ≡ Onward → node < first → first < second → P first → P second → Each P far → ((least : ℕ) (far' : List ℕ) → Each P far' → K (suc node) least far' heads) → Follows plan May (Line node first one None ∷ Line node second other None ∷ []) K (suc node) 0 far heads
  unfolding Follows
  pair_follows P node first second one other K far go on low less p q all k =
      let far1 = landed (first == suc node) first far in (
        refl,
        led_onward (manner one) _ (suc node) 0 far heads first go (omega arith) (omega arith) (
          refl,
          led_onward (manner other) _ (suc node) (suc first) far1 heads second on (omega arith) (omega arith)
              (k (suc second) (landed (second == suc node) second far1) (each_landed P (second == suc node) second far1 q (each_landed P (first == suc node) first far p all))),
        ),
      )

  fork_by : (P : ℕ → Type 0) (b : Bool) (node hit miss : ℕ) (holds fails : Doing) (K : Behind) (far : List ℕ) → nat_lt hit miss ≡ b → manner holds ≡ Onward → manner fails ≡ Onward → node < hit → node < miss → (hit ≡ miss → ⊥) → P hit → P miss → Each P far → ((least : ℕ) (far' : List ℕ) → Each P far' → K (suc node) least far' heads) → Follows plan May (if b then Line node hit holds None ∷ Line node miss fails None ∷ [] else Line node miss fails None ∷ Line node hit holds None ∷ []) K (suc node) 0 far heads
  fork_by P true node hit miss holds fails K far e go on low least ne p q all k =
      pair_follows P node hit miss holds fails K far go on low (below hit miss e) p q all k
  fork_by P false node hit miss holds fails K far e go on low least ne p q all k =
      let at_most : miss ≤ hit = not_below hit miss e in
      pair_follows P node miss hit fails holds K far on go least (omega (arith, ne)) q p all k

  fork_follows : (P : ℕ → Type 0) (node hit miss : ℕ) (holds fails : Doing) (K : Behind) (far : List ℕ) → manner holds ≡ Onward → manner fails ≡ Onward → node < hit → node < miss → (hit ≡ miss → ⊥) → P hit → P miss → Each P far → ((least : ℕ) (far' : List ℕ) → Each P far' → K (suc node) least far' heads) → Follows plan May (fork node hit holds miss fails) K (suc node) 0 far heads
  unfolding fork
  fork_follows P node hit miss holds fails K far go on low least ne p q all k =
      fork_by P (nat_lt hit miss) node hit miss holds fails K far refl go on low least ne p q all k

  side_follows : (far : List ℕ) (apart : Bool) (kept : Kept) (node temporaries end : ℕ) (K : Behind) → end ≡ node + side_size apart kept → K (suc end) 0 far heads → Follows plan May (side_strokes plan scene apart kept node temporaries) K (suc node) 0 far heads
  side_follows far apart kept node temporaries end K e h =
      if_follows plan May scene far heads (goes apart kept) _ _ 1 0 node end K (suc node) 0 e
      (λ e. temporary_follows plan May scene far heads node end temporaries kept K (omega arith) h)
      (λ e. none_follows plan May scene far heads node end K (omega arith) h)

  sides_follow : (P : ℕ → Type 0) (mark : Comparison) (sides : Sides) (node hit miss last : ℕ) (K : Behind) (far : List ℕ) → last ≡ node + sides_size sides → last < hit → last < miss → (hit ≡ miss → ⊥) → P hit → P miss → Each P far → ((least : ℕ) (far' : List ℕ) → Each P far' → K (suc last) least far' heads) → Follows plan May (sides_strokes plan scene mark sides node hit miss) K (suc node) 0 far heads
  unfolding sides_strokes
  sides_follow P mark sides node hit miss last K far e low least ne p q all k =
      let apart = is_apart sides in
      let second = node + side_size apart sides.left in
      let third = node + sides_size sides in
      join3 plan May _ _ _ K (suc node) 0 far heads
      (side_follows far apart sides.left node _ second _ refl
      (side_follows far apart sides.right second _ third _ (omega arith)
      (fork_follows P third hit miss _ _ K far (keeping_goes _ _) (keeping_goes _ _) (omega arith) (omega arith) ne p q all (rw e at k))))

  evaluation_follows : (far : List ℕ) (low high : ℕ) → Away low high far → (it : Compared) (node end : ℕ) (K : Behind) → ComparedInvokes (λ offset. May (scene.instance + offset)) it → low ≤ node → end ≤ high → end ≡ node + evaluation_size plan scene it → K (suc end) 0 far heads → Follows plan May (evaluation_strokes plan scene it node) K (suc node) 0 far heads
  evaluation_follows far low high away (Plainly x mark y) node end K i from upto e h =
      let a = value plan scene x 0 in
      let left = left_waiting plan scene a y 0 in
      let second = node + size plan scene x 0 in
      let third = second + yield_size (bases_of plan scene) (coming y) (a ∷ []) in
      join3 plan May _ _ _ K (suc node) 0 far heads
      (strokes_follow plan May scene far heads low high away x node 0 second _ i.0 from (omega arith) refl
      (yield_follows plan May scene far heads (coming y) (a ∷ []) second _ third _ refl
      (strokes_follow plan May scene far heads low high away y third left.temporaries end K i.1 (omega arith) upto (omega arith) h)))
  evaluation_follows far low high away (Number x) node end K i from upto e h =
      strokes_follow plan May scene far heads low high away x node 0 end K i from upto e h
  evaluation_follows far low high away (Applied op args site mark) node end K i from upto e h =
      let none = no_values plan scene 0 in
      let second = node + sizes plan scene args none in
      follows_join plan May _ _ K (suc node) 0 far heads
      (all_follow plan May scene far heads low high away args node none second _ i from (omega arith) refl
      (operate_follows plan May scene far heads op site (values_after plan scene args none) second _ _ end K (omega arith) h))

  compared_follows : (P : ℕ → Type 0) (it : Compared) (node hit miss last : ℕ) (K : Behind) (far : List ℕ) → ComparedInvokes (λ offset. May (scene.instance + offset)) it → last ≡ node + compared_size plan scene it → last < hit → last < miss → (hit ≡ miss → ⊥) → Away node last far → Each P far → P hit → P miss → ((least : ℕ) (far' : List ℕ) → Each P far' → K (suc last) least far' heads) → Follows plan May (compared_strokes plan scene it node hit miss) K (suc node) 0 far heads
  compared_follows P it node hit miss last K far i e low least ne away all p q k =
      let second = node + evaluation_size plan scene it in
      follows_join plan May _ _ K (suc node) 0 far heads
      (evaluation_follows far node last away it node second _ i (omega arith) (omega arith) refl
      (sides_follow P (mark_of plan scene it) (sides_of plan scene it) second hit miss last K far (omega arith) low least ne p q all k))

  always_follows : (P : ℕ → Type 0) (node hit last : ℕ) (K : Behind) (far : List ℕ) → last ≡ node → last < hit → Each P far → P hit → ((least : ℕ) (far' : List ℕ) → Each P far' → K (suc last) least far' heads) → Follows plan May (Line node hit nothing None ∷ []) K (suc node) 0 far heads
  unfolding Follows manner
  always_follows P node hit last K far same low all p k =
      (refl, led_onward _ _ (suc node) 0 far heads hit refl (omega arith) (omega arith) (rw same at k (suc hit) (landed (hit == suc node) hit far) (each_landed P (hit == suc node) hit far p all)))

  pub test_follows : (P : ℕ → Type 0) (test : Test) (node hit miss last : ℕ) (K : Behind) (far : List ℕ) → TestInvokes (λ offset. May (scene.instance + offset)) test → last ≡ node + test_size plan scene test → last < hit → last < miss → (hit ≡ miss → ⊥) → Away node last far → Each P far → ((t : ℕ) → node < t → t ≤ last → P t) → P hit → P miss → ((least : ℕ) (far' : List ℕ) → Each P far' → K (suc last) least far' heads) → Follows plan May (test_strokes plan scene test node hit miss) K (suc node) 0 far heads
  unfolding test_size test_strokes
  test_follows P Always node hit miss last K far i e low least ne away all inner p q k =
      always_follows P node hit last K far (omega arith) low all p k
  test_follows P (Either c d) node hit miss last K far i e low least ne away all inner p q k =
      let mid = node + test_size plan scene c in
      let Q : ℕ → Type 0 = λ t. P t × IsAway (suc mid) last t in
      follows_join plan May _ _ K (suc node) 0 far heads
      (test_follows Q c node hit (suc mid) mid _ far i.0 refl (omega arith) (omega arith) (λ same. omega arith) (away_within far node last node mid (omega arith) (omega arith) away)
      (each_both P (IsAway (suc mid) last) far all (away_within far node last (suc mid) last (omega arith) (omega arith) away))
      (λ t a b. (inner t a (omega arith), λ x y. omega arith)) (p, λ x y. omega arith) (inner (suc mid) (omega arith) (omega arith), λ x y. omega arith)
      (λ l far' h. point_then plan May scene far' heads _ 0 K (suc mid) l
      (test_follows P d (suc mid) hit miss last K far' i.1 (omega arith) low least ne (each_on Q (IsAway (suc mid) last) far' (λ t x. x.1) h) (each_on Q P far' (λ t x. x.0) h) (λ t a b. inner t (omega arith) b) p q k)))
  test_follows P (Both c d) node hit miss last K far i e low least ne away all inner p q k =
      let mid = node + test_size plan scene c in
      let Q : ℕ → Type 0 = λ t. P t × IsAway (suc mid) last t in
      follows_join plan May _ _ K (suc node) 0 far heads
      (test_follows Q c node (suc mid) miss mid _ far i.0 refl (omega arith) (omega arith) (λ same. omega arith) (away_within far node last node mid (omega arith) (omega arith) away)
      (each_both P (IsAway (suc mid) last) far all (away_within far node last (suc mid) last (omega arith) (omega arith) away))
      (λ t a b. (inner t a (omega arith), λ x y. omega arith)) (inner (suc mid) (omega arith) (omega arith), λ x y. omega arith) (q, λ x y. omega arith)
      (λ l far' h. point_then plan May scene far' heads _ 0 K (suc mid) l
      (test_follows P d (suc mid) hit miss last K far' i.1 (omega arith) low least ne (each_on Q (IsAway (suc mid) last) far' (λ t x. x.1) h) (each_on Q P far' (λ t x. x.0) h) (λ t a b. inner t (omega arith) b) p q k)))
  test_follows P (Not c) node hit miss last K far i e low least ne away all inner p q k =
      test_follows P c node miss hit last K far i e least low (λ same. ne (omega arith)) away all inner q p k
  test_follows P (Compare x mark y) node hit miss last K far i e low least ne away all inner p q k =
      compared_follows P (compared x mark y) node hit miss last K far (compared_invokes (λ offset. May (scene.instance + offset)) x mark y i.0 i.1) e low least ne away all p q k
  test_follows P (Truth x) node hit miss last K far i e low least ne away all inner p q k =
      compared_follows P (compared_number x) node hit miss last K far (number_invokes (λ offset. May (scene.instance + offset)) x i) e low least ne away all p q k
