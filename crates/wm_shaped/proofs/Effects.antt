-- The points of assignments, updates and declarations fit their contexts.
use Rattle.std.proofs.Common.{ℕ, ◌+◌, List, [], ◌∷◌, Option, Some, None}
use Rattle.std.specs.Prelude.{◌==◌}
use Rattle.wm_program.specs.declared.tree.Array.{Array}
use Rattle.wm_program.specs.declared.tree.PlainMark.{PlainMark}
use Rattle.wm_program.specs.Tree.{Expression, Effect, Fresh, Variable, Item, Assign, Update, Evaluate, Count, Given, Filled, Blank, Listed}
use Rattle.wm_flow.specs.declared.kept.Kept.{Kept}
use Rattle.wm_flow.specs.declared.scene.Scene.{Scene}
use Rattle.wm_flow.specs.declared.scene.Source.{Source}
use Rattle.wm_flow.specs.declared.scene.Source.TheVariants.{Cells, Fixed}
use Rattle.wm_flow.specs.declared.scene.Source.TheVariants as places
use Rattle.wm_flow.specs.Plain.{Doing}
use Rattle.wm_flow.specs.Places.{Plan, bases_of, overflow_place, scalar_source, array_source, offset_of}
use Rattle.wm_flow.specs.Strokes.{step}
use Rattle.wm_flow.specs.Yields.{after}
use Rattle.wm_flow.specs.Expressions.{value, no_values}
use Rattle.wm_flow.specs.Effects.{Direct, direct, stored_strokes, store_strokes, found_strokes, current_strokes, update_strokes, dropped_strokes, effect_strokes, effects_strokes, own_source, fresh_strokes, declared_strokes}
use Rattle.wm_graph_laws.specs.Each.{Each}
use Rattle.wm_graph_laws.specs.Invoked.{Invokes, EffectInvokes, FreshInvokes}
use Rattle.wm_graph_laws.proofs.Effects.{DirectInvokes, direct_invokes}
use Rattle.wm_shaped.specs.Fitting.{AreFitting}
use Rattle.wm_shaped.proofs.Pieces.{Seated, join2, join3, join5, none_fit, if_fit, step_fits}
use Rattle.wm_shaped.proofs.Values.{yields_fit, place_fits, plain_fits, narrow_fits, operate_fits, strokes_fit, all_fit}

module _ (owner : ℕ → Option ℕ) (counted : ℕ → ℕ) (May : ℕ → Type 0) (plan : Plan) (scene : Scene) (seat : Seated owner counted May plan scene) where
  one : (node : ℕ) (doing : Doing) (site : Option ℕ) (temporaries : ℕ) → AreFitting owner counted May (step plan scene node doing site temporaries)
  one = step_fits owner counted May plan scene seat

  abbrev On : ℕ → Type 0
  On offset = May (scene.instance + offset)

  stored_fits : (it : Option Direct) (source : Source) (cells : ℕ) (x : Expression) (narrowing : Option ℕ) (node : ℕ) → DirectInvokes On it → Invokes On x → AreFitting owner counted May (stored_strokes plan scene it source cells x narrowing node)
  stored_fits (Some it) source cells x narrowing node d i =
      join2 owner counted May _ _ (all_fit owner counted May plan scene seat it.arguments node (no_values plan scene 0) d) (operate_fits owner counted May plan scene seat it.op it.site _ _ _ _)
  stored_fits None source cells x narrowing node d i =
      join3 owner counted May _ _ _ (strokes_fit owner counted May plan scene seat x node 0 i) (narrow_fits owner counted May plan scene seat narrowing _ _ _) (one _ _ _ _)

  store_fits : (source : Source) (cells : ℕ) (x : Expression) (narrowing : Option ℕ) (node : ℕ) → Invokes On x → AreFitting owner counted May (store_strokes plan scene source cells x narrowing node)
  unfolding store_strokes
  store_fits source cells x narrowing node i =
      stored_fits (direct (overflow_place (bases_of plan scene)) source x narrowing) source cells x narrowing node (direct_invokes On (overflow_place (bases_of plan scene)) source x narrowing i) i

  found_fits : (array : Array) (index : Expression) (site node : ℕ) → Invokes On index → AreFitting owner counted May (found_strokes plan scene array index site node)
  unfolding found_strokes
  found_fits array index site node i =
      join2 owner counted May _ _ (strokes_fit owner counted May plan scene seat index node 0 i) (place_fits owner counted May plan scene seat (offset_of plan scene array) _ _ _ site _ _ _)

  current_fits : (source : Source) (site : Option ℕ) (node : ℕ) → AreFitting owner counted May (current_strokes plan scene source site node)
  current_fits (places.Variable v) site node = none_fit owner counted May
  current_fits (Cells a) site node = one node _ _ _
  current_fits (Fixed low high) site node = one node _ _ _

  update_fits : (source : Source) (cells : ℕ) (site : Option ℕ) (mark : PlainMark) (x : Expression) (arithmetic : ℕ) (narrowing : Option ℕ) (node : ℕ) → Invokes On x → AreFitting owner counted May (update_strokes plan scene source cells site mark x arithmetic narrowing node)
  unfolding update_strokes
  update_fits source cells site mark x arithmetic narrowing node i =
      join2 owner counted May _ _
      (join5 owner counted May _ _ _ _ _ (current_fits source site node) (yields_fit owner counted May plan scene seat _ _ _ _) (strokes_fit owner counted May plan scene seat x _ _ i) (plain_fits owner counted May plan scene seat mark _ _ arithmetic _ 0) (narrow_fits owner counted May plan scene seat narrowing _ _ _))
      (one _ _ _ _)

  dropped_fits : (kept : Kept) (node : ℕ) → AreFitting owner counted May (dropped_strokes plan scene kept node)
  dropped_fits kept node =
      if_fit owner counted May (after (bases_of plan scene) kept 0 == 0) _ _ (none_fit owner counted May) (one node _ _ _)

  pub effect_fits : (effect : Effect) (node : ℕ) → EffectInvokes On effect → AreFitting owner counted May (effect_strokes plan scene effect node)
  unfolding effect_strokes
  effect_fits (Assign (Variable scalar) x narrowing) node i = store_fits (scalar_source plan scene scalar) 1 x narrowing node i.1
  effect_fits (Assign (Item array index site) x narrowing) node i =
      join2 owner counted May _ _ (found_fits array index site node i.0) (store_fits (array_source plan scene array) _ x narrowing _ i.1)
  effect_fits (Update (Variable scalar) mark x arithmetic narrowing) node i =
      update_fits (scalar_source plan scene scalar) 1 None mark x arithmetic narrowing node i.1
  effect_fits (Update (Item array index site) mark x arithmetic narrowing) node i =
      join2 owner counted May _ _ (found_fits array index site node i.0) (update_fits (array_source plan scene array) _ (Some site) mark x arithmetic narrowing _ i.1)
  effect_fits (Evaluate x) node i =
      join2 owner counted May _ _ (strokes_fit owner counted May plan scene seat x node 0 i) (dropped_fits (value plan scene x 0) _)
  effect_fits (Count call) node i = one node _ _ _

  pub effects_fit : (effects : List Effect) (node : ℕ) → Each (EffectInvokes On) effects → AreFitting owner counted May (effects_strokes plan scene effects node)
  unfolding effects_strokes
  effects_fit [] node i = none_fit owner counted May
  effects_fit (effect ∷ rest) node i = join2 owner counted May _ _ (effect_fits effect node i.0) (effects_fit rest _ i.1)

  pub declared_fit : (fresh : List Fresh) (node : ℕ) → Each (FreshInvokes On) fresh → AreFitting owner counted May (declared_strokes plan scene fresh node)
  unfolding declared_strokes fresh_strokes
  declared_fit [] node i = none_fit owner counted May
  declared_fit (Given local x narrowing ∷ rest) node i =
      join2 owner counted May _ _ (store_fits (own_source plan scene local) 1 x narrowing node i.0) (declared_fit rest _ i.1)
  declared_fit (Filled local width ∷ rest) node i = join2 owner counted May _ _ (one node _ _ _) (declared_fit rest _ i.1)
  declared_fit (Blank local count ∷ rest) node i = join2 owner counted May _ _ (one node _ _ _) (declared_fit rest _ i.1)
  declared_fit (Listed local count values ∷ rest) node i = join2 owner counted May _ _ (one node _ _ _) (declared_fit rest _ i.1)
