-- The strokes of assignments, updates and declarations begin no head; they have the calls in them as parts.
use Rattle.std.proofs.Common.{◌≡◌, ℕ, Bool, true, false, List, [], ◌∷◌, Option, Some, None, refl, ◌∙◌, arith}
use Rattle.std.specs.Prelude.{◌==◌}
use Rattle.wm_ops.specs.declared.operators.Op.{Op}
use Rattle.wm_program.specs.declared.tree.Array.{Array}
use Rattle.wm_program.specs.declared.tree.PlainMark.{PlainMark}
use Rattle.wm_program.specs.Tree.{Expression, Arguments, Effect, Fresh, Constant, Named, Element, Operator, Invoke, Plain, Negate, Plus, Cast, Variable, Item, Assign, Update, Evaluate, Count, Given, Filled, Blank, Listed}
use Rattle.wm_program.specs.WellFormed.{calls_in, calls_in_arguments, calls_in_effect, calls_in_effects, calls_in_fresh}
use Rattle.wm_flow.specs.declared.kept.Kept.{Kept}
use Rattle.wm_flow.specs.declared.scene.Scene.{Scene}
use Rattle.wm_flow.specs.declared.scene.Source.{Source}
use Rattle.wm_flow.specs.declared.scene.Source.TheVariants.{Cells, Fixed}
use Rattle.wm_flow.specs.declared.scene.Source.TheVariants as places
use Rattle.wm_flow.specs.Places.{Plan, bases_of, overflow_place, scalar_source, array_source, offset_of}
use Rattle.wm_flow.specs.Yields.{after}
use Rattle.wm_flow.specs.Expressions.{value, no_values}
use Rattle.wm_flow.specs.Effects.{Direct, direct_of, direct_to, direct, stored_strokes, store_strokes, found_strokes, current_strokes, update_strokes, dropped_strokes, effect_strokes, effects_strokes, own_source, fresh_strokes, declared_strokes}
use Rattle.wm_heads.specs.Tally.{begins, called}
use Rattle.wm_heads.proofs.Counted.{join2, join3, join5, quiet_none, quiet_if, quiet_step, called_join}
use Rattle.wm_heads.proofs.Values.{quiet_yields, quiet_place, quiet_plain, quiet_narrow, quiet_operate, strokes_count, all_count}

-- ---- an operator that gives its value to a variable itself

module _ (part : ℕ → ℕ) (instance : ℕ) where
  abbrev pub DirectCounts : ℕ → Option Direct → Type 0
  DirectCounts count None = Unit {0}
  DirectCounts count (Some it) = called part instance (calls_in_arguments it.arguments) ≡ count

  direct_by : (b : Bool) (op : Op) (args : Arguments) (site v : ℕ) → DirectCounts (called part instance (calls_in_arguments args)) (direct_of b op args site v)
  direct_by true op args site v = tt
  direct_by false op args site v = refl

  direct_at : (overflow : ℕ) (source : Source) (op : Op) (args : Arguments) (site : ℕ) → DirectCounts (called part instance (calls_in_arguments args)) (direct_to overflow source op args site)
  direct_at overflow (places.Variable v) op args site = direct_by (v == overflow) op args site v
  direct_at overflow (Cells a) op args site = tt
  direct_at overflow (Fixed low high) op args site = tt

  direct_counts : (overflow : ℕ) (source : Source) (x : Expression) (narrowing : Option ℕ) → DirectCounts (called part instance (calls_in x)) (direct overflow source x narrowing)
  direct_counts overflow source (Operator op args site) None = direct_at overflow source op args site
  direct_counts overflow source (Operator op args site) (Some narrowing) = tt
  direct_counts overflow source (Constant z) narrowing = tt
  direct_counts overflow source (Named scalar) narrowing = tt
  direct_counts overflow source (Element array index site) narrowing = tt
  direct_counts overflow source (Invoke function offset args) narrowing = tt
  direct_counts overflow source (Plain mark x y site) narrowing = tt
  direct_counts overflow source (Negate x site) narrowing = tt
  direct_counts overflow source (Plus x) narrowing = tt
  direct_counts overflow source (Cast width x) narrowing = tt

module _ (n : ℕ) (part : ℕ → ℕ) (plan : Plan) (scene : Scene) where
  stored_count : (it : Option Direct) (source : Source) (cells : ℕ) (x : Expression) (narrowing : Option ℕ) (node : ℕ) → DirectCounts part scene.instance (called part scene.instance (calls_in x)) it → begins n part (stored_strokes plan scene it source cells x narrowing node) ≡ called part scene.instance (calls_in x)
  stored_count (Some it) source cells x narrowing node d =
      join2 n part _ _ _ 0 (all_count n part plan scene it.arguments node (no_values plan scene 0)) (quiet_operate n part plan scene it.op it.site _ _ _ _) ∙ omega (arith, d)
  stored_count None source cells x narrowing node d =
      join3 n part _ _ _ _ 0 0 (strokes_count n part plan scene x node 0) (quiet_narrow n part plan scene narrowing _ _ _) (quiet_step n part plan scene _ _ _ _) ∙ omega arith

  store_count : (source : Source) (cells : ℕ) (x : Expression) (narrowing : Option ℕ) (node : ℕ) → begins n part (store_strokes plan scene source cells x narrowing node) ≡ called part scene.instance (calls_in x)
  unfolding store_strokes
  store_count source cells x narrowing node =
      stored_count (direct (overflow_place (bases_of plan scene)) source x narrowing) source cells x narrowing node (direct_counts part scene.instance (overflow_place (bases_of plan scene)) source x narrowing)

  found_count : (array : Array) (index : Expression) (site node : ℕ) → begins n part (found_strokes plan scene array index site node) ≡ called part scene.instance (calls_in index)
  unfolding found_strokes
  found_count array index site node =
      join2 n part _ _ _ 0 (strokes_count n part plan scene index node 0) (quiet_place n part plan scene (offset_of plan scene array) _ _ _ site _ _ _) ∙ omega arith

  quiet_current : (source : Source) (site : Option ℕ) (node : ℕ) → begins n part (current_strokes plan scene source site node) ≡ 0
  quiet_current (places.Variable v) site node = quiet_none n part
  quiet_current (Cells a) site node = quiet_step n part plan scene node _ _ _
  quiet_current (Fixed low high) site node = quiet_step n part plan scene node _ _ _

  update_count : (source : Source) (cells : ℕ) (site : Option ℕ) (mark : PlainMark) (x : Expression) (arithmetic : ℕ) (narrowing : Option ℕ) (node : ℕ) → begins n part (update_strokes plan scene source cells site mark x arithmetic narrowing node) ≡ called part scene.instance (calls_in x)
  unfolding update_strokes
  update_count source cells site mark x arithmetic narrowing node =
      join2 n part _ _ _ 0
      (join5 n part _ _ _ _ _ 0 0 _ 0 0 (quiet_current source site node) (quiet_yields n part plan scene _ _ _ _) (strokes_count n part plan scene x _ _) (quiet_plain n part plan scene mark _ _ arithmetic _ 0) (quiet_narrow n part plan scene narrowing _ _ _))
      (quiet_step n part plan scene _ _ _ _)
      ∙ omega arith

  quiet_dropped : (kept : Kept) (node : ℕ) → begins n part (dropped_strokes plan scene kept node) ≡ 0
  quiet_dropped kept node =
      quiet_if n part (after (bases_of plan scene) kept 0 == 0) _ _ (quiet_none n part) (quiet_step n part plan scene node _ _ _)

  pub effect_count : (effect : Effect) (node : ℕ) → begins n part (effect_strokes plan scene effect node) ≡ called part scene.instance (calls_in_effect effect)
  unfolding effect_strokes
  effect_count (Assign (Variable scalar) x narrowing) node = store_count (scalar_source plan scene scalar) 1 x narrowing node
  effect_count (Assign (Item array index site) x narrowing) node =
      join2 n part _ _ _ _ (found_count array index site node) (store_count (array_source plan scene array) _ x narrowing _)
      ∙ omega (arith, called_join part scene.instance (calls_in index) (calls_in x))
  effect_count (Update (Variable scalar) mark x arithmetic narrowing) node =
      update_count (scalar_source plan scene scalar) 1 None mark x arithmetic narrowing node
  effect_count (Update (Item array index site) mark x arithmetic narrowing) node =
      join2 n part _ _ _ _ (found_count array index site node) (update_count (array_source plan scene array) _ (Some site) mark x arithmetic narrowing _)
      ∙ omega (arith, called_join part scene.instance (calls_in index) (calls_in x))
  effect_count (Evaluate x) node =
      join2 n part _ _ _ 0 (strokes_count n part plan scene x node 0) (quiet_dropped (value plan scene x 0) _) ∙ omega arith
  effect_count (Count call) node = quiet_step n part plan scene node _ _ _

  pub effects_count : (effects : List Effect) (node : ℕ) → begins n part (effects_strokes plan scene effects node) ≡ called part scene.instance (calls_in_effects effects)
  unfolding effects_strokes
  effects_count [] node = quiet_none n part
  effects_count (effect ∷ rest) node =
      join2 n part _ _ _ _ (effect_count effect node) (effects_count rest _)
      ∙ omega (arith, called_join part scene.instance (calls_in_effect effect) (calls_in_effects rest))

  pub declared_count : (fresh : List Fresh) (node : ℕ) → begins n part (declared_strokes plan scene fresh node) ≡ called part scene.instance (calls_in_fresh fresh)
  unfolding declared_strokes fresh_strokes
  declared_count [] node = quiet_none n part
  declared_count (Given local x narrowing ∷ rest) node =
      join2 n part _ _ _ _ (store_count (own_source plan scene local) 1 x narrowing node) (declared_count rest _)
      ∙ omega (arith, called_join part scene.instance (calls_in x) (calls_in_fresh rest))
  declared_count (Filled local width ∷ rest) node =
      join2 n part _ _ 0 _ (quiet_step n part plan scene node _ _ _) (declared_count rest _) ∙ omega arith
  declared_count (Blank local count ∷ rest) node =
      join2 n part _ _ 0 _ (quiet_step n part plan scene node _ _ _) (declared_count rest _) ∙ omega arith
  declared_count (Listed local count values ∷ rest) node =
      join2 n part _ _ 0 _ (quiet_step n part plan scene node _ _ _) (declared_count rest _) ∙ omega arith
