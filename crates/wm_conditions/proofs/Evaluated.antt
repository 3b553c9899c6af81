-- The sides of a comparison as they are evaluated, and the whole of it.
use Rattle.std.proofs.Common.{◌≡◌, ℕ, suc, pos, [], ◌∷◌, refl, ap, sym, ◌∙◌}
use Rattle.wm_ops.specs.declared.operators.Op.{Op}
use Rattle.wm_program.specs.declared.tree.Comparison.{Comparison}
use Rattle.wm_program.specs.Tree.{Expression, Arguments}
use Rattle.wm_flow.specs.declared.kept.Kept.{Kept}
use Rattle.wm_flow.specs.declared.scene.Scene.{Scene}
use Rattle.wm_flow.specs.declared.scene.Sides.{Sides}
use Rattle.wm_flow.specs.Kept.{constant}
use Rattle.wm_flow.specs.Places.{Plan, bases_of, temporary}
use Rattle.wm_flow.specs.Yields.{coming, after, yield_size, yield_strokes}
use Rattle.wm_flow.specs.Expressions.{value, values_after, no_values, operands, behind, size, sizes, strokes, all_strokes, operate_size, operate_strokes, left_waiting}
use Rattle.wm_flow.specs.Tests.{Compared, Plainly, Number, Applied, sides_of, sides_size, sides_strokes, evaluation_size, evaluation_strokes, mark_of}
use Rattle.wm_pen.specs.Ink.{Ink, put}
use Rattle.wm_pen.proofs.Joins.{put_after, put_after3}
use Rattle.wm_steps.specs.Moves.{yielding, operating}
use Rattle.wm_steps.proofs.ValuesWait.{one_waits, one_value, one_count}
use Rattle.wm_values.specs.Draws.{evaluating, evaluating_all}
use Rattle.wm_values.specs.Turns.{first_waits}
use Rattle.wm_comparisons.specs.Seen.{mark_in}
use Rattle.wm_comparisons.specs.Draws.{comparing}
use Rattle.wm_conditions.specs.Steps.{plain_sides, plain_siding, applied_sides, applied_siding, sides_at, preparing, deciding}

-- ---- what stands

abbrev standing : (plan : Plan) (scene : Scene) (y : Expression) → Kept → ℕ → Sides
standing plan scene y v n = record { left = v; right = value plan scene y n; temporaries = behind plan scene y n }

pub sides_plainly : (plan : Plan) (scene : Scene) (x : Expression) (mark : Comparison) (y : Expression) → sides_at plan scene (Plainly x mark y) ≡ plain_sides plan scene x y
unfolding sides_at plain_sides first_waits
sides_plainly plan scene x mark y =
    let bases = bases_of plan scene in
    let a = value plan scene x 0 in
    let count = after bases a 0 in
    let left = left_waiting plan scene a y 0 in
    ap (λ (v : Kept). standing plan scene y v left.temporaries) (one_value bases (coming y) a count (constant (pos 0)))
    ∙ ap (λ (n : ℕ). standing plan scene y (first_waits plan scene y a 0).value n) (one_count bases (coming y) a count)

pub sides_applied : (plan : Plan) (scene : Scene) (op : Op) (args : Arguments) (site : ℕ) (mark : Comparison) → sides_at plan scene (Applied op args site mark) ≡ applied_sides plan scene args
unfolding sides_at applied_sides
sides_applied plan scene op args site mark = refl

-- ---- what is drawn before the sides are compared

drawn_waiting : (plan : Plan) (scene : Scene) (x : Expression) (mark : Comparison) (y : Expression) (ink : Ink) → preparing plan scene (Plainly x mark y) ink ≡ evaluating plan scene y (left_waiting plan scene (value plan scene x 0) y 0).temporaries (yielding plan scene (coming y) (value plan scene x 0 ∷ []) (after (bases_of plan scene) (value plan scene x 0) 0) (evaluating plan scene x 0 ink))
unfolding preparing evaluating yielding
drawn_waiting plan scene x mark y ink =
    let a = value plan scene x 0 in
    let left = left_waiting plan scene a y 0 in
    sym (put_after3 (size plan scene x 0) (yield_size (bases_of plan scene) (coming y) (a ∷ [])) (size plan scene y left.temporaries)
    (strokes plan scene x ink.node 0)
    (λ node. yield_strokes plan scene (coming y) (a ∷ []) node (after (bases_of plan scene) a 0))
    (λ node. strokes plan scene y node left.temporaries) ink)

pub drawn_plainly : (plan : Plan) (scene : Scene) (x : Expression) (mark : Comparison) (y : Expression) (ink : Ink) → preparing plan scene (Plainly x mark y) ink ≡ plain_siding plan scene x y ink
unfolding plain_siding first_waits
drawn_plainly plan scene x mark y ink =
    let bases = bases_of plan scene in
    let a = value plan scene x 0 in
    let count = after bases a 0 in
    let left = left_waiting plan scene a y 0 in
    let first = evaluating plan scene x 0 ink in
    drawn_waiting plan scene x mark y ink
    ∙ (ap (λ (n : ℕ). evaluating plan scene y n (yielding plan scene (coming y) (a ∷ []) count first)) (one_count bases (coming y) a count)
    ∙ ap (λ (k : Ink). evaluating plan scene y (first_waits plan scene y a 0).temporaries k) (sym (one_waits plan scene (coming y) a count first)))

pub drawn_number : (plan : Plan) (scene : Scene) (x : Expression) (ink : Ink) → preparing plan scene (Number x) ink ≡ evaluating plan scene x 0 ink
unfolding preparing evaluating
drawn_number plan scene x ink = refl

pub drawn_applied : (plan : Plan) (scene : Scene) (op : Op) (args : Arguments) (site : ℕ) (mark : Comparison) (ink : Ink) → preparing plan scene (Applied op args site mark) ink ≡ applied_siding plan scene op args site ink
unfolding preparing applied_siding evaluating_all operating
drawn_applied plan scene op args site mark ink =
    let none = no_values plan scene 0 in
    let held = values_after plan scene args none in
    let own = operands (bases_of plan scene) held in
    sym (put_after (sizes plan scene args none) (operate_size (bases_of plan scene) held) (all_strokes plan scene args ink.node none) (λ node. operate_strokes plan scene op site held node (temporary (bases_of plan scene) own.temporaries) (suc own.temporaries)) ink)

-- ---- the whole

mark_as : (plan : Plan) (scene : Scene) (it : Compared) → mark_in it ≡ mark_of plan scene it
mark_as plan scene (Plainly x mark y) = refl
mark_as plan scene (Number x) = refl
mark_as plan scene (Applied op args site mark) = refl

pub deciding_joins : (plan : Plan) (scene : Scene) (it : Compared) (hit miss : ℕ) (ink : Ink) → comparing plan scene (mark_in it) (sides_at plan scene it) hit miss (preparing plan scene it ink) ≡ deciding plan scene it hit miss ink
unfolding sides_at comparing preparing deciding
deciding_joins plan scene it hit miss ink =
    let sides = sides_of plan scene it in
    ap (λ (mark : Comparison). put (sides_size sides) (sides_strokes plan scene mark sides (preparing plan scene it ink).node hit miss) (preparing plan scene it ink)) (mark_as plan scene it)
    ∙ put_after (evaluation_size plan scene it) (sides_size sides) (evaluation_strokes plan scene it ink.node) (λ node. sides_strokes plan scene (mark_of plan scene it) sides node hit miss) ink
