-- The strokes of effects and declarations follow each other.
use Rattle.std.proofs.Common.{◌≡◌, ℕ, suc, ◌+◌, ◌≤◌, Bool, true, false, List, [], ◌∷◌, Option, Some, None, refl, arith}
use Rattle.std.specs.Prelude.{◌==◌}
use Rattle.wm_ops.specs.declared.operators.Op.{Op}
use Rattle.wm_ops.specs.declared.operators.Width.{Width}
use Rattle.wm_program.specs.declared.tree.Array.{Array}
use Rattle.wm_program.specs.declared.tree.PlainMark.{PlainMark}
use Rattle.wm_program.specs.Tree.{Expression, Arguments, Effect, Fresh, Constant, Named, Element, Operator, Invoke, Plain, Negate, Plus, Cast, Variable, Item, Assign, Update, Evaluate, Count, Given, Filled, Blank, Listed}
use Rattle.wm_flow.specs.declared.kept.Kept.{Kept}
use Rattle.wm_flow.specs.declared.scene.Scene.{Scene}
use Rattle.wm_flow.specs.declared.scene.Source.{Source}
use Rattle.wm_flow.specs.declared.scene.Source.TheVariants.{Cells, Fixed}
use Rattle.wm_flow.specs.declared.scene.Source.TheVariants as places
use Rattle.wm_flow.specs.Plain.{Range}
use Rattle.wm_flow.specs.Places.{Plan, bases_of, overflow_place, scalar_source, array_source, offset_of}
use Rattle.wm_flow.specs.Yields.{coming, yield_size, after}
use Rattle.wm_flow.specs.Expressions.{value, values_after, size, sizes, no_values, left_waiting, narrow_size, plain_value, only_value}
use Rattle.wm_flow.specs.Effects.{storing, Direct, direct_of, direct_to, direct, stored_size, stored_strokes, store_size, store_strokes, found_size, found_strokes, current, current_size, current_strokes, update_size, update_strokes, dropped_size, dropped_strokes, effect_size, effect_strokes, effects_size, effects_strokes, own_source, filling, setting, fresh_size, fresh_strokes, declared_size, declared_strokes}
use Rattle.wm_graph_laws.specs.Each.{Each}
use Rattle.wm_graph_laws.specs.Manner.{Onward, manner}
use Rattle.wm_graph_laws.specs.Invoked.{Invokes, InvokesAmong, EffectInvokes, FreshInvokes}
use Rattle.wm_graph_laws.specs.Following.{Open, Away, Behind, Follows}
use Rattle.wm_graph_laws.proofs.Joins.{follows_join, join3, join6, step_to, if_follows}
use Rattle.wm_graph_laws.proofs.Values.{none_follows, yield_follows, place_follows, plain_follows, narrow_follows, operate_follows, strokes_follow, all_follow}

-- ---- what the edges do

storing_goes : (source : Source) (kept : Kept) (count : ℕ) → manner (storing source kept count) ≡ Onward
unfolding manner
storing_goes (places.Variable v) kept count = refl
storing_goes (Cells a) kept count = refl
storing_goes (Fixed low high) kept count = refl

filling_goes : (plan : Plan) (scene : Scene) (source : Source) (width : Width) → manner (filling plan scene source width) ≡ Onward
unfolding manner
filling_goes plan scene (places.Variable v) width = refl
filling_goes plan scene (Cells a) width = refl
filling_goes plan scene (Fixed low high) width = refl

setting_goes : (plan : Plan) (scene : Scene) (source : Source) (summary : Option Range) → manner (setting plan scene source summary) ≡ Onward
unfolding manner
setting_goes plan scene (places.Variable v) summary = refl
setting_goes plan scene (Cells a) summary = refl
setting_goes plan scene (Fixed low high) summary = refl

-- ---- an operator that gives its value to a variable itself

module _ (May : ℕ → Type 0) where
  abbrev pub DirectInvokes : Option Direct → Type 0
  DirectInvokes None = Unit {0}
  DirectInvokes (Some it) = InvokesAmong May it.arguments

  direct_by : (b : Bool) (op : Op) (args : Arguments) (site v : ℕ) → InvokesAmong May args → DirectInvokes (direct_of b op args site v)
  direct_by true op args site v h = tt
  direct_by false op args site v h = h

  direct_at : (overflow : ℕ) (source : Source) (op : Op) (args : Arguments) (site : ℕ) → InvokesAmong May args → DirectInvokes (direct_to overflow source op args site)
  direct_at overflow (places.Variable v) op args site h = direct_by (v == overflow) op args site v h
  direct_at overflow (Cells a) op args site h = tt
  direct_at overflow (Fixed low high) op args site h = tt

  pub direct_invokes : (overflow : ℕ) (source : Source) (x : Expression) (narrowing : Option ℕ) → Invokes May x → DirectInvokes (direct overflow source x narrowing)
  direct_invokes overflow source (Operator op args site) None h = direct_at overflow source op args site h
  direct_invokes overflow source (Operator op args site) (Some narrowing) h = tt
  direct_invokes overflow source (Constant z) narrowing h = tt
  direct_invokes overflow source (Named scalar) narrowing h = tt
  direct_invokes overflow source (Element array index site) narrowing h = tt
  direct_invokes overflow source (Invoke function offset args) narrowing h = tt
  direct_invokes overflow source (Plain mark x y site) narrowing h = tt
  direct_invokes overflow source (Negate x site) narrowing h = tt
  direct_invokes overflow source (Plus x) narrowing h = tt
  direct_invokes overflow source (Cast width x) narrowing h = tt

module _ (plan : Plan) (May : ℕ → Type 0) (scene : Scene) (far : List ℕ) (heads : List Open) (low high : ℕ) (away : Away low high far) where
  stored_follows : (it : Option Direct) (source : Source) (cells : ℕ) (x : Expression) (narrowing : Option ℕ) (node end : ℕ) (K : Behind) → DirectInvokes (λ offset. May (scene.instance + offset)) it → Invokes (λ offset. May (scene.instance + offset)) x → low ≤ node → end ≤ high → end ≡ node + stored_size plan scene it x narrowing → K (suc end) 0 far heads → Follows plan May (stored_strokes plan scene it source cells x narrowing node) K (suc node) 0 far heads
  stored_follows (Some it) source cells x narrowing node end K d i from upto e h =
      let none = no_values plan scene 0 in
      let second = node + sizes plan scene it.arguments none in
      follows_join plan May _ _ K (suc node) 0 far heads
      (all_follow plan May scene far heads low high away it.arguments node none second _ d from (omega arith) refl
      (operate_follows plan May scene far heads it.op it.site (values_after plan scene it.arguments none) second _ _ end K (omega arith) h))
  stored_follows None source cells x narrowing node end K d i from upto e h =
      let kept = value plan scene x 0 in
      let second = node + size plan scene x 0 in
      let third = second + narrow_size narrowing in
      join3 plan May _ _ _ K (suc node) 0 far heads
      (strokes_follow plan May scene far heads low high away x node 0 second _ i from (omega arith) refl
      (narrow_follows plan May scene far heads narrowing kept second _ third _ refl
      (step_to plan May scene far heads third end _ _ _ K (storing_goes source kept cells) (omega arith) h)))

  store_follows : (source : Source) (cells : ℕ) (x : Expression) (narrowing : Option ℕ) (node end : ℕ) (K : Behind) → Invokes (λ offset. May (scene.instance + offset)) x → low ≤ node → end ≤ high → end ≡ node + store_size plan scene source x narrowing → K (suc end) 0 far heads → Follows plan May (store_strokes plan scene source cells x narrowing node) K (suc node) 0 far heads
  unfolding store_size store_strokes
  store_follows source cells x narrowing node end K i from upto e h =
      stored_follows (direct (overflow_place (bases_of plan scene)) source x narrowing) source cells x narrowing node end K
      (direct_invokes (λ offset. May (scene.instance + offset)) (overflow_place (bases_of plan scene)) source x narrowing i) i from upto e h

  found_follows : (array : Array) (index : Expression) (site node end : ℕ) (K : Behind) → Invokes (λ offset. May (scene.instance + offset)) index → low ≤ node → end ≤ high → end ≡ node + found_size plan scene array index → K (suc end) 0 far heads → Follows plan May (found_strokes plan scene array index site node) K (suc node) 0 far heads
  unfolding found_strokes
  found_follows array index site node end K i from upto e h =
      let second = node + size plan scene index 0 in
      follows_join plan May _ _ K (suc node) 0 far heads
      (strokes_follow plan May scene far heads low high away index node 0 second _ i from (omega arith) refl
      (place_follows plan May scene far heads (offset_of plan scene array) (value plan scene index 0) _ _ site second _ _ end K (omega arith) h))

  current_follows : (source : Source) (site : Option ℕ) (node end : ℕ) (K : Behind) → end ≡ node + current_size plan scene source → K (suc end) 0 far heads → Follows plan May (current_strokes plan scene source site node) K (suc node) 0 far heads
  unfolding manner
  current_follows (places.Variable v) site node end K e h = none_follows plan May scene far heads node end K (omega arith) h
  current_follows (Cells a) site node end K e h = step_to plan May scene far heads node end _ _ _ K refl (omega arith) h
  current_follows (Fixed least most) site node end K e h = step_to plan May scene far heads node end _ _ _ K refl (omega arith) h

  update_follows : (source : Source) (cells : ℕ) (site : Option ℕ) (mark : PlainMark) (x : Expression) (arithmetic : ℕ) (narrowing : Option ℕ) (node end : ℕ) (K : Behind) → Invokes (λ offset. May (scene.instance + offset)) x → low ≤ node → end ≤ high → end ≡ node + update_size plan scene source x narrowing → K (suc end) 0 far heads → Follows plan May (update_strokes plan scene source cells site mark x arithmetic narrowing node) K (suc node) 0 far heads
  unfolding update_size update_strokes
  update_follows source cells site mark x arithmetic narrowing node end K i from upto e h =
      let here = bases_of plan scene in
      let was = current plan scene source in
      let left = left_waiting plan scene was x 0 in
      let kept = plain_value here mark (only_value plan scene left) (value plan scene x left.temporaries) 0 in
      let second = node + current_size plan scene source in
      let third = second + yield_size here (coming x) (was ∷ []) in
      let fourth = third + size plan scene x left.temporaries in
      let last = suc fourth + narrow_size narrowing in
      join6 plan May _ _ _ _ _ _ K (suc node) 0 far heads
      (current_follows source site node second _ refl
      (yield_follows plan May scene far heads (coming x) (was ∷ []) second _ third _ refl
      (strokes_follow plan May scene far heads low high away x third left.temporaries fourth _ i (omega arith) (omega arith) refl
      (plain_follows plan May scene far heads mark _ _ arithmetic fourth 0 (suc fourth) _ refl
      (narrow_follows plan May scene far heads narrowing kept (suc fourth) _ last _ refl
      (step_to plan May scene far heads last end _ _ _ K (storing_goes source kept cells) (omega arith) h))))))

  dropped_follows : (kept : Kept) (node end : ℕ) (K : Behind) → end ≡ node + dropped_size plan scene kept → K (suc end) 0 far heads → Follows plan May (dropped_strokes plan scene kept node) K (suc node) 0 far heads
  unfolding manner
  dropped_follows kept node end K e h =
      if_follows plan May scene far heads (after (bases_of plan scene) kept 0 == 0) _ _ 0 1 node end K (suc node) 0 e
      (λ e. none_follows plan May scene far heads node end K (omega arith) h)
      (λ e. step_to plan May scene far heads node end _ _ _ K refl (omega arith) h)

  pub effect_follows : (effect : Effect) (node end : ℕ) (K : Behind) → EffectInvokes (λ offset. May (scene.instance + offset)) effect → low ≤ node → end ≤ high → end ≡ node + effect_size plan scene effect → K (suc end) 0 far heads → Follows plan May (effect_strokes plan scene effect node) K (suc node) 0 far heads
  unfolding effect_size effect_strokes manner
  effect_follows (Assign (Variable scalar) x narrowing) node end K i from upto e h =
      store_follows (scalar_source plan scene scalar) 1 x narrowing node end K i.1 from upto e h
  effect_follows (Assign (Item array index site) x narrowing) node end K i from upto e h =
      let second = node + found_size plan scene array index in
      follows_join plan May _ _ K (suc node) 0 far heads
      (found_follows array index site node second _ i.0 from (omega arith) refl
      (store_follows (array_source plan scene array) _ x narrowing second end K i.1 (omega arith) upto (omega arith) h))
  effect_follows (Update (Variable scalar) mark x arithmetic narrowing) node end K i from upto e h =
      update_follows (scalar_source plan scene scalar) 1 None mark x arithmetic narrowing node end K i.1 from upto e h
  effect_follows (Update (Item array index site) mark x arithmetic narrowing) node end K i from upto e h =
      let second = node + found_size plan scene array index in
      follows_join plan May _ _ K (suc node) 0 far heads
      (found_follows array index site node second _ i.0 from (omega arith) refl
      (update_follows (array_source plan scene array) _ (Some site) mark x arithmetic narrowing second end K i.1 (omega arith) upto (omega arith) h))
  effect_follows (Evaluate x) node end K i from upto e h =
      let second = node + size plan scene x 0 in
      follows_join plan May _ _ K (suc node) 0 far heads
      (strokes_follow plan May scene far heads low high away x node 0 second _ i from (omega arith) refl
      (dropped_follows (value plan scene x 0) second end K (omega arith) h))
  effect_follows (Count call) node end K i from upto e h = step_to plan May scene far heads node end _ _ _ K refl (omega arith) h

  pub effects_follow : (effects : List Effect) (node end : ℕ) (K : Behind) → Each (EffectInvokes (λ offset. May (scene.instance + offset))) effects → low ≤ node → end ≤ high → end ≡ node + effects_size plan scene effects → K (suc end) 0 far heads → Follows plan May (effects_strokes plan scene effects node) K (suc node) 0 far heads
  unfolding effects_size effects_strokes
  effects_follow [] node end K i from upto e h = none_follows plan May scene far heads node end K (omega arith) h
  effects_follow (effect ∷ rest) node end K i from upto e h =
      let second = node + effect_size plan scene effect in
      follows_join plan May _ _ K (suc node) 0 far heads
      (effect_follows effect node second _ i.0 from (omega arith) refl
      (effects_follow rest second end K i.1 (omega arith) upto (omega arith) h))

  fresh_follows : (fresh : Fresh) (node end : ℕ) (K : Behind) → FreshInvokes (λ offset. May (scene.instance + offset)) fresh → low ≤ node → end ≤ high → end ≡ node + fresh_size plan scene fresh → K (suc end) 0 far heads → Follows plan May (fresh_strokes plan scene fresh node) K (suc node) 0 far heads
  unfolding fresh_size fresh_strokes
  fresh_follows (Given local x narrowing) node end K i from upto e h =
      store_follows (own_source plan scene local) 1 x narrowing node end K i from upto e h
  fresh_follows (Filled local width) node end K i from upto e h =
      step_to plan May scene far heads node end _ _ _ K (filling_goes plan scene (own_source plan scene local) width) (omega arith) h
  fresh_follows (Blank local count) node end K i from upto e h =
      step_to plan May scene far heads node end _ _ _ K (setting_goes plan scene (own_source plan scene local) None) (omega arith) h
  fresh_follows (Listed local count values) node end K i from upto e h =
      step_to plan May scene far heads node end _ _ _ K (setting_goes plan scene (own_source plan scene local) _) (omega arith) h

  pub declared_follow : (fresh : List Fresh) (node end : ℕ) (K : Behind) → Each (FreshInvokes (λ offset. May (scene.instance + offset))) fresh → low ≤ node → end ≤ high → end ≡ node + declared_size plan scene fresh → K (suc end) 0 far heads → Follows plan May (declared_strokes plan scene fresh node) K (suc node) 0 far heads
  unfolding declared_size declared_strokes
  declared_follow [] node end K i from upto e h = none_follows plan May scene far heads node end K (omega arith) h
  declared_follow (fresh ∷ rest) node end K i from upto e h =
      let second = node + fresh_size plan scene fresh in
      follows_join plan May _ _ K (suc node) 0 far heads
      (fresh_follows fresh node second _ i.0 from (omega arith) refl
      (declared_follow rest second end K i.1 (omega arith) upto (omega arith) h))
