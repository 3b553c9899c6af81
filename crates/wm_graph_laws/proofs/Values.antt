-- The strokes of expressions follow each other: each node has one edge, which leads to the next one, or is a call.
use Rattle.std.proofs.Common.{◌≡◌, ℕ, suc, ◌+◌, ◌≤◌, List, [], ◌∷◌, Option, Some, None, ℤ, refl, arith}
use Rattle.wm_ops.specs.declared.operators.Op.{Op}
use Rattle.wm_ops.specs.declared.operators.Width.{Width}
use Rattle.wm_ops.specs.declared.operators.Width.TheVariants.{W16, W32}
use Rattle.wm_program.specs.declared.tree.Array.{Array}
use Rattle.wm_program.specs.declared.tree.PlainMark.{PlainMark}
use Rattle.wm_program.specs.Tree.{Expression, Arguments, Constant, Named, Element, Operator, Invoke, Plain, Negate, Plus, Cast, Done, Value, Whole, From}
use Rattle.wm_flow.specs.declared.kept.Kept.{Kept}
use Rattle.wm_flow.specs.declared.scene.Scene.{Scene}
use Rattle.wm_flow.specs.declared.scene.Bases.{Bases}
use Rattle.wm_flow.specs.declared.scene.Held.{Held}
use Rattle.wm_flow.specs.declared.scene.Coming.{Coming}
use Rattle.wm_flow.specs.declared.scene.Source.{Source}
use Rattle.wm_flow.specs.declared.scene.Source.TheVariants.{Variable, Cells, Fixed}
use Rattle.wm_flow.specs.Places.{Plan, bases_of, temporary, scalar_source, array_source, offset_of}
use Rattle.wm_flow.specs.Strokes.{point}
use Rattle.wm_flow.specs.Yields.{coming, own_operator, yield_size, yield_strokes, must_yield, to_temporary, after, with_value}
use Rattle.wm_flow.specs.Calls.{enter, leave}
use Rattle.wm_flow.specs.Expressions.{reading, moves, place_form, place_size, place_strokes, plain_form, plain_doing, plain_strokes, narrow_size, narrow_strokes, operate_size, operate_strokes, size_at, call_size, call_strokes, value, values_after, size, sizes, strokes, all_strokes, waiting, left_waiting, no_values, named_size, named_strokes, element_strokes, cast_doing}
use Rattle.wm_graph_laws.specs.Manner.{Onward, manner}
use Rattle.wm_graph_laws.specs.Invoked.{Invokes, InvokesAmong}
use Rattle.wm_graph_laws.specs.Following.{Open, Away, Behind, Follows}
use Rattle.wm_graph_laws.proofs.Joins.{follows_join, join3, join4, led_next, step_follows, step_to, if_follows, away_within}

-- ---- what the edges do

pub reading_goes : (source : Source) (target : ℕ) → manner (reading source target) ≡ Onward
unfolding manner
reading_goes (Variable v) target = refl
reading_goes (Cells a) target = refl
reading_goes (Fixed low high) target = refl

plain_goes : (bases : Bases) (mark : PlainMark) (a b : Kept) (target : ℕ) (kept : Option Kept) → manner (plain_doing bases mark a b target kept) ≡ Onward
unfolding manner
plain_goes bases mark a b target None = refl
plain_goes bases mark a b target (Some kept) = refl

cast_goes : (plan : Plan) (scene : Scene) (width : Width) (kept : Kept) (target : ℕ) → manner (cast_doing plan scene width kept target) ≡ Onward
unfolding manner
cast_goes plan scene W16 kept target = refl
cast_goes plan scene W32 kept target = refl

-- A piece lies between two nodes, and no far target does.
module _ (plan : Plan) (May : ℕ → Type 0) (scene : Scene) (far : List ℕ) (heads : List Open) where
  pub none_follows : (node end : ℕ) (K : Behind) → end ≡ node → K (suc end) 0 far heads → Follows plan May [] K (suc node) 0 far heads
  unfolding Follows
  none_follows node end K e h = rw e at h

  -- ---- values that wait

  pub temporary_follows : (node end temporaries : ℕ) (kept : Kept) (K : Behind) → end ≡ suc node → K (suc end) 0 far heads → Follows plan May (to_temporary plan scene node temporaries kept) K (suc node) 0 far heads
  unfolding to_temporary manner
  temporary_follows node end temporaries kept K e h = step_to plan May scene far heads node end _ _ _ K refl e h

  pub yield_follows : (it : Coming) (values : List Kept) (node temporaries end : ℕ) (K : Behind) → end ≡ node + yield_size (bases_of plan scene) it values → K (suc end) 0 far heads → Follows plan May (yield_strokes plan scene it values node temporaries) K (suc node) 0 far heads
  unfolding yield_strokes yield_size
  yield_follows it [] node temporaries end K e h = none_follows node end K (sym_of node end e) h
    where
      sym_of : (n e : ℕ) → e ≡ n + 0 → e ≡ n
      sym_of n e h = omega arith
  yield_follows it (kept ∷ rest) node temporaries end K e h =
      if_follows plan May scene far heads (must_yield (bases_of plan scene) it kept) _ _ _ _ node end K (suc node) 0 e
      (λ e. follows_join plan May (to_temporary plan scene node temporaries kept) _ K (suc node) 0 far heads (temporary_follows node (suc node) temporaries kept _ refl (yield_follows it rest (suc node) (suc temporaries) end K (omega arith) h)))
      (λ e. yield_follows it rest node temporaries end K e h)

  -- ---- indices

  pub place_follows : (offset index : Kept) (least most : ℤ) (site node temporaries left end : ℕ) (K : Behind) → end ≡ node + place_size offset index → K (suc end) 0 far heads → Follows plan May (place_strokes plan scene offset index least most site node temporaries left) K (suc node) 0 far heads
  unfolding place_strokes manner
  place_follows offset index least most site node temporaries left end K e h =
      if_follows plan May scene far heads (moves offset index) _ _ 2 1 node end K (suc node) 0 e
      (λ e. follows_join plan May (to_temporary plan scene node temporaries index) _ K (suc node) 0 far heads (temporary_follows node (suc node) temporaries index _ refl (step_to plan May scene far heads (suc node) end _ _ _ K refl (omega arith) h)))
      (λ e. step_to plan May scene far heads node end _ _ _ K refl (omega arith) h)

  -- ---- operators and conversions

  pub plain_follows : (mark : PlainMark) (a b : Kept) (site node target end : ℕ) (K : Behind) → end ≡ suc node → K (suc end) 0 far heads → Follows plan May (plain_strokes plan scene mark a b site node target) K (suc node) 0 far heads
  unfolding plain_strokes
  plain_follows mark a b site node target end K e h =
      step_to plan May scene far heads node end _ _ _ K (plain_goes (bases_of plan scene) mark a b target (plain_form (bases_of plan scene) mark a b)) e h

  pub narrow_follows : (narrowing : Option ℕ) (kept : Kept) (node temporaries end : ℕ) (K : Behind) → end ≡ node + narrow_size narrowing → K (suc end) 0 far heads → Follows plan May (narrow_strokes plan scene narrowing kept node temporaries) K (suc node) 0 far heads
  unfolding narrow_strokes manner
  narrow_follows None kept node temporaries end K e h = none_follows node end K (none_of node end e) h
    where
      none_of : (n e : ℕ) → e ≡ n + 0 → e ≡ n
      none_of n e h = omega arith
  narrow_follows (Some site) kept node temporaries end K e h = step_to plan May scene far heads node end _ _ _ K refl (omega arith) h

  pub operate_follows : (op : Op) (site : ℕ) (held : Held) (node target temporaries end : ℕ) (K : Behind) → end ≡ node + operate_size (bases_of plan scene) held → K (suc end) 0 far heads → Follows plan May (operate_strokes plan scene op site held node target temporaries) K (suc node) 0 far heads
  unfolding operate_strokes manner
  operate_follows op site held node target temporaries end K e h =
      let at = node + yield_size (bases_of plan scene) own_operator held.values in
      join3 plan May _ _ _ K (suc node) 0 far heads
      (yield_follows own_operator held.values node held.temporaries at _ refl
      (step_follows plan May scene far heads at _ _ _ _ refl
      (step_to plan May scene far heads (suc at) end _ _ _ K refl (omega arith) h)))

  -- ---- calls of functions

  pub call_follows : (low high function instance : ℕ) (values : List Kept) (node temporaries end : ℕ) (K : Behind) → Away low high far → May instance → low ≤ node → end ≤ high → end ≡ node + call_size plan instance → K (suc end) 0 far heads → Follows plan May (call_strokes plan scene function instance values node temporaries) K (suc node) 0 far heads
  unfolding call_strokes point enter leave manner Follows
  call_follows low high function instance values node temporaries end K away may from upto e h =
      let last : end ≡ suc (suc node + size_at plan instance) = omega arith in (
        refl,
        led_next _ _ (suc node) far heads refl (
          refl,
          may,
          away_within far low high (suc node) (suc node + size_at plan instance) (omega arith) (omega arith) away,
          (refl, led_next _ _ (suc (suc node + size_at plan instance)) far heads refl (rw last at h)),
        ),
      )

-- ---- expressions

module _ (plan : Plan) (May : ℕ → Type 0) (scene : Scene) (far : List ℕ) (heads : List Open) (low high : ℕ) (away : Away low high far) where
  -- a value of a name
  named_follows : (source : Source) (node temporaries end : ℕ) (K : Behind) → end ≡ node + named_size plan scene source → K (suc end) 0 far heads → Follows plan May (named_strokes plan scene source node temporaries) K (suc node) 0 far heads
  unfolding manner
  named_follows (Variable v) node temporaries end K e h = none_follows plan May scene far heads node end K (omega arith) h
  named_follows (Cells a) node temporaries end K e h = step_to plan May scene far heads node end _ _ _ K refl (omega arith) h
  named_follows (Fixed least most) node temporaries end K e h = step_to plan May scene far heads node end _ _ _ K refl (omega arith) h

  element_follows : (array : Array) (site : ℕ) (at : Kept) (node temporaries end : ℕ) (K : Behind) → end ≡ node + place_size (offset_of plan scene array) at + 1 → K (suc end) 0 far heads → Follows plan May (element_strokes plan scene array site at node temporaries) K (suc node) 0 far heads
  element_follows array site at node temporaries end K e h =
      let offset = offset_of plan scene array in
      follows_join plan May _ _ K (suc node) 0 far heads
      (place_follows plan May scene far heads offset at _ _ site node _ _ (node + place_size offset at) _ refl
      (step_to plan May scene far heads (node + place_size offset at) end _ _ _ K (reading_goes (array_source plan scene array) (temporary (bases_of plan scene) temporaries)) (omega arith) h))

  mutual
    unfolding strokes all_strokes size sizes manner

    pub strokes_follow : (x : Expression) (node temporaries end : ℕ) (K : Behind) → Invokes (λ offset. May (scene.instance + offset)) x → low ≤ node → end ≤ high → end ≡ node + size plan scene x temporaries → K (suc end) 0 far heads → Follows plan May (strokes plan scene x node temporaries) K (suc node) 0 far heads
    strokes_follow (Constant z) node temporaries end K i from upto e h = none_follows plan May scene far heads node end K (omega arith) h
    strokes_follow (Named scalar) node temporaries end K i from upto e h = named_follows (scalar_source plan scene scalar) node temporaries end K e h
    strokes_follow (Element array index site) node temporaries end K i from upto e h =
        let second = node + size plan scene index temporaries in
        follows_join plan May _ _ K (suc node) 0 far heads
        (strokes_follow index node temporaries second _ i from (omega arith) refl
        (element_follows array site (value plan scene index temporaries) second temporaries end K (omega arith) h))
    strokes_follow (Operator op args site) node temporaries end K i from upto e h =
        let none = no_values plan scene temporaries in
        let second = node + sizes plan scene args none in
        follows_join plan May _ _ K (suc node) 0 far heads
        (all_follow args node none second _ i from (omega arith) refl
        (operate_follows plan May scene far heads op site (values_after plan scene args none) second _ _ end K (omega arith) h))
    strokes_follow (Invoke function offset args) node temporaries end K i from upto e h =
        let none = no_values plan scene temporaries in
        let second = node + sizes plan scene args none in
        follows_join plan May _ _ K (suc node) 0 far heads
        (all_follow args node none second _ i.1 from (omega arith) refl
        (call_follows plan May scene far heads low high _ (scene.instance + offset) _ second temporaries end K away i.0 (omega arith) upto (omega arith) h))
    strokes_follow (Plain mark x y site) node temporaries end K i from upto e h =
        let a = value plan scene x temporaries in
        let left = left_waiting plan scene a y temporaries in
        let second = node + size plan scene x temporaries in
        let third = second + yield_size (bases_of plan scene) (coming y) (a ∷ []) in
        let fourth = third + size plan scene y left.temporaries in
        join4 plan May _ _ _ _ K (suc node) 0 far heads
        (strokes_follow x node temporaries second _ i.0 from (omega arith) refl
        (yield_follows plan May scene far heads (coming y) (a ∷ []) second (after (bases_of plan scene) a temporaries) third _ refl
        (strokes_follow y third left.temporaries fourth _ i.1 (omega arith) (omega arith) refl
        (plain_follows plan May scene far heads mark _ _ site fourth temporaries end K (omega arith) h))))
    strokes_follow (Negate x site) node temporaries end K i from upto e h =
        let second = node + size plan scene x temporaries in
        follows_join plan May _ _ K (suc node) 0 far heads
        (strokes_follow x node temporaries second _ i from (omega arith) refl
        (step_to plan May scene far heads second end _ _ _ K refl (omega arith) h))
    strokes_follow (Plus x) node temporaries end K i from upto e h = strokes_follow x node temporaries end K i from upto e h
    strokes_follow (Cast width x) node temporaries end K i from upto e h =
        let second = node + size plan scene x temporaries in
        follows_join plan May _ _ K (suc node) 0 far heads
        (strokes_follow x node temporaries second _ i from (omega arith) refl
        (step_to plan May scene far heads second end _ _ _ K (cast_goes plan scene width (value plan scene x temporaries) (temporary (bases_of plan scene) temporaries)) (omega arith) h))

    pub all_follow : (args : Arguments) (node : ℕ) (held : Held) (end : ℕ) (K : Behind) → InvokesAmong (λ offset. May (scene.instance + offset)) args → low ≤ node → end ≤ high → end ≡ node + sizes plan scene args held → K (suc end) 0 far heads → Follows plan May (all_strokes plan scene args node held) K (suc node) 0 far heads
    all_follow Done node held end K i from upto e h = none_follows plan May scene far heads node end K (omega arith) h
    all_follow (Value x narrowing rest) node held end K i from upto e h =
        let wait = waiting plan scene x held in
        let kept = value plan scene x wait.temporaries in
        let second = node + yield_size (bases_of plan scene) (coming x) held.values in
        let third = second + size plan scene x wait.temporaries in
        let fourth = third + narrow_size narrowing in
        join4 plan May _ _ _ _ K (suc node) 0 far heads
        (yield_follows plan May scene far heads (coming x) held.values node held.temporaries second _ refl
        (strokes_follow x second wait.temporaries third _ i.0 (omega arith) (omega arith) refl
        (narrow_follows plan May scene far heads narrowing kept third _ fourth _ refl
        (all_follow rest fourth (with_value (bases_of plan scene) wait kept) end K i.1 (omega arith) upto (omega arith) h))))
    all_follow (Whole array rest) node held end K i from upto e h =
        all_follow rest node (with_value (bases_of plan scene) held (offset_of plan scene array)) end K i from upto e h
    all_follow (From array index site rest) node held end K i from upto e h =
        let wait = waiting plan scene index held in
        let at = value plan scene index wait.temporaries in
        let offset = offset_of plan scene array in
        let second = node + yield_size (bases_of plan scene) (coming index) held.values in
        let third = second + size plan scene index wait.temporaries in
        let fourth = third + place_size offset at in
        let kept = place_form (bases_of plan scene) offset at (after (bases_of plan scene) at wait.temporaries) in
        join4 plan May _ _ _ _ K (suc node) 0 far heads
        (yield_follows plan May scene far heads (coming index) held.values node held.temporaries second _ refl
        (strokes_follow index second wait.temporaries third _ i.0 (omega arith) (omega arith) refl
        (place_follows plan May scene far heads offset at _ _ site third _ _ fourth _ refl
        (all_follow rest fourth (with_value (bases_of plan scene) wait kept) end K i.1 (omega arith) upto (omega arith) h))))
