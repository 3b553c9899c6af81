-- Each kind of statement without words of its own, and several.
use Rattle.std.proofs.Common.{◌≡◌, ℕ, List, [], ◌∷◌, Option, Some, None, refl, sym, ◌∙◌}
use Rattle.wm_ops.specs.declared.words.CountCall.{CountCall}
use Rattle.wm_ops.specs.declared.words.Counted.TheVariants as counted
use Rattle.wm_program.specs.declared.tree.Array.{Array}
use Rattle.wm_program.specs.declared.tree.PlainMark.{PlainMark}
use Rattle.wm_program.specs.declared.tree.Scalar.{Scalar}
use Rattle.wm_program.specs.Tree.{Expression, Effect, Variable, Item, Assign, Update, Evaluate, Count}
use Rattle.wm_flow.specs.declared.scene.Scene.{Scene}
use Rattle.wm_flow.specs.Plain as plain
use Rattle.wm_flow.specs.Places.{Plan, scalar_source, array_source}
use Rattle.wm_flow.specs.Expressions.{value, size, strokes, cells_in}
use Rattle.wm_flow.specs.Effects.{store_size, store_strokes, found_size, found_strokes, update_size, update_strokes, dropped_size, dropped_strokes, effect_size, effect_strokes, effects_size, effects_strokes}
use Rattle.wm_pen.specs.Ink.{Ink}
use Rattle.wm_pen.proofs.Joins.{put_none, put_after}
use Rattle.wm_steps.specs.Moves.{stepped}
use Rattle.wm_stores.specs.Draws.{dropping}
use Rattle.wm_values.specs.Draws.{evaluating}
use Rattle.wm_effects.specs.Draws.{acting, acting_all, acting_each}
use Rattle.wm_effects.specs.Stores.{storing, finding, updating}

pub assign_scalar : (plan : Plan) (scene : Scene) (scalar : Scalar) (x : Expression) (site : Option ℕ) (ink : Ink) → acting plan scene (Assign (Variable scalar) x site) ink ≡ storing plan scene (scalar_source plan scene scalar) 1 x site ink
unfolding acting effect_size effect_strokes storing
assign_scalar plan scene scalar x site ink = refl

pub assign_element : (plan : Plan) (scene : Scene) (array : Array) (index : Expression) (place : ℕ) (x : Expression) (site : Option ℕ) (ink : Ink) → acting plan scene (Assign (Item array index place) x site) ink ≡ storing plan scene (array_source plan scene array) (cells_in plan scene array) x site (finding plan scene array index place ink)
unfolding acting effect_size effect_strokes storing finding
assign_element plan scene array index place x site ink =
    let source = array_source plan scene array in
    sym (put_after (found_size plan scene array index) (store_size plan scene source x site) (found_strokes plan scene array index place ink.node) (λ node. store_strokes plan scene source (cells_in plan scene array) x site node) ink)

pub update_scalar : (plan : Plan) (scene : Scene) (scalar : Scalar) (mark : PlainMark) (x : Expression) (arithmetic : ℕ) (site : Option ℕ) (ink : Ink) → acting plan scene (Update (Variable scalar) mark x arithmetic site) ink ≡ updating plan scene (scalar_source plan scene scalar) 1 None mark x arithmetic site ink
unfolding acting effect_size effect_strokes updating
update_scalar plan scene scalar mark x arithmetic site ink = refl

pub update_element : (plan : Plan) (scene : Scene) (array : Array) (index : Expression) (place : ℕ) (mark : PlainMark) (x : Expression) (arithmetic : ℕ) (site : Option ℕ) (ink : Ink) → acting plan scene (Update (Item array index place) mark x arithmetic site) ink ≡ updating plan scene (array_source plan scene array) (cells_in plan scene array) (Some place) mark x arithmetic site (finding plan scene array index place ink)
unfolding acting effect_size effect_strokes updating finding
update_element plan scene array index place mark x arithmetic site ink =
    let source = array_source plan scene array in
    sym (put_after (found_size plan scene array index) (update_size plan scene source x site) (found_strokes plan scene array index place ink.node) (λ node. update_strokes plan scene source (cells_in plan scene array) (Some place) mark x arithmetic site node) ink)

pub evaluate_joins : (plan : Plan) (scene : Scene) (x : Expression) (ink : Ink) → acting plan scene (Evaluate x) ink ≡ dropping plan scene (value plan scene x 0) (evaluating plan scene x 0 ink)
unfolding acting effect_size effect_strokes dropping evaluating
evaluate_joins plan scene x ink =
    let kept = value plan scene x 0 in
    sym (put_after (size plan scene x 0) (dropped_size plan scene kept) (strokes plan scene x ink.node 0) (λ node. dropped_strokes plan scene kept node) ink)

pub count_drawn : (plan : Plan) (scene : Scene) (call : CountCall) (ink : Ink) → acting plan scene (Count call) ink ≡ stepped plan scene (plain.Count (counted.Call call)) None 0 ink
unfolding acting effect_size effect_strokes stepped
count_drawn plan scene call ink = refl

-- ---- several

all_none : (plan : Plan) (scene : Scene) (ink : Ink) → acting_all plan scene [] ink ≡ ink
unfolding acting_all effects_size effects_strokes
all_none plan scene ink = put_none ink

all_next : (plan : Plan) (scene : Scene) (effect : Effect) (rest : List Effect) (ink : Ink) → acting_all plan scene (effect ∷ rest) ink ≡ acting_all plan scene rest (acting plan scene effect ink)
unfolding acting_all effects_size effects_strokes acting
all_next plan scene effect rest ink =
    sym (put_after (effect_size plan scene effect) (effects_size plan scene rest) (effect_strokes plan scene effect ink.node) (λ node. effects_strokes plan scene rest node) ink)

pub each_all : (plan : Plan) (scene : Scene) (effects : List Effect) (ink : Ink) → acting_each plan scene effects ink ≡ acting_all plan scene effects ink
each_all plan scene [] ink = sym (all_none plan scene ink)
each_all plan scene (effect ∷ rest) ink = each_all plan scene rest (acting plan scene effect ink) ∙ sym (all_next plan scene effect rest ink)
