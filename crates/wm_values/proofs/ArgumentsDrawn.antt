-- Arguments: each is drawn behind those before it.
use Rattle.std.proofs.Common.{◌≡◌, ℕ, pos, List, [], ◌∷◌, Option, refl, sym, ◌∙◌}
use Rattle.wm_program.specs.declared.tree.Array.{Array}
use Rattle.wm_program.specs.declared.tree.Converted.{Converted}
use Rattle.wm_program.specs.declared.tree.Passed.{Passed}
use Rattle.wm_program.specs.declared.tree.Passed.TheVariants as passed
use Rattle.wm_program.specs.declared.tree.View.TheVariants as view
use Rattle.wm_program.specs.Trees.{values_of, arguments_of}
use Rattle.wm_program.specs.Tree.{Expression, Arguments, Done, Value, Whole, From}
use Rattle.wm_flow.specs.declared.scene.Scene.{Scene}
use Rattle.wm_flow.specs.declared.scene.Held.{Held}
use Rattle.wm_flow.specs.Places.{Plan, bases_of, offset_of}
use Rattle.wm_flow.specs.Yields.{coming, after, with_value, yield_size, yield_strokes}
use Rattle.wm_flow.specs.Expressions.{value, values_after, waiting, size, sizes, strokes, all_strokes, narrow_size, narrow_strokes, place_size, place_strokes, cells_in}
use Rattle.wm_pen.specs.Ink.{Ink}
use Rattle.wm_pen.proofs.Joins.{put_none, put_after4}
use Rattle.wm_steps.specs.Moves.{yielding, narrowing, placing}
use Rattle.wm_results.specs.Draws.{taking, begun, viewing}
use Rattle.wm_values.specs.Draws.{evaluating, evaluating_all}
use Rattle.wm_values.specs.Turns.{coming_to, argued, arguing, viewed, seeing, argued_all, arguing_all, handed_all, handing_all}

-- ---- the values

after_none : (plan : Plan) (scene : Scene) (held : Held) → values_after plan scene Done held ≡ held
unfolding values_after
after_none plan scene held = refl

after_value : (plan : Plan) (scene : Scene) (x : Expression) (narrowing : Option ℕ) (rest : Arguments) (held : Held) → values_after plan scene (Value x narrowing rest) held ≡ values_after plan scene rest (argued plan scene x held)
unfolding values_after argued
after_value plan scene x narrowing rest held = refl

after_whole : (plan : Plan) (scene : Scene) (array : Array) (rest : Arguments) (held : Held) → values_after plan scene (Whole array rest) held ≡ values_after plan scene rest (with_value (bases_of plan scene) held (offset_of plan scene array))
unfolding values_after
after_whole plan scene array rest held = refl

after_from : (plan : Plan) (scene : Scene) (array : Array) (index : Expression) (site : ℕ) (rest : Arguments) (held : Held) → values_after plan scene (From array index site rest) held ≡ values_after plan scene rest (viewed plan scene array index held)
unfolding values_after viewed begun
after_from plan scene array index site rest held = refl

-- ---- the strokes

drawn_none : (plan : Plan) (scene : Scene) (held : Held) (ink : Ink) → evaluating_all plan scene Done held ink ≡ ink
unfolding evaluating_all sizes all_strokes
drawn_none plan scene held ink = put_none ink

drawn_value : (plan : Plan) (scene : Scene) (x : Expression) (site : Option ℕ) (rest : Arguments) (held : Held) (ink : Ink) → evaluating_all plan scene (Value x site rest) held ink ≡ evaluating_all plan scene rest (argued plan scene x held) (arguing plan scene x site held ink)
unfolding evaluating_all sizes all_strokes argued arguing coming_to taking narrowing evaluating yielding
drawn_value plan scene x site rest held ink =
    let wait = waiting plan scene x held in
    let kept = value plan scene x wait.temporaries in
    let more = with_value (bases_of plan scene) wait kept in
    sym (put_after4 (yield_size (bases_of plan scene) (coming x) held.values) (size plan scene x wait.temporaries) (narrow_size site) (sizes plan scene rest more)
    (yield_strokes plan scene (coming x) held.values ink.node held.temporaries)
    (λ node. strokes plan scene x node wait.temporaries)
    (λ node. narrow_strokes plan scene site kept node (after (bases_of plan scene) kept wait.temporaries))
    (λ node. all_strokes plan scene rest node more) ink)

drawn_whole : (plan : Plan) (scene : Scene) (array : Array) (rest : Arguments) (held : Held) (ink : Ink) → evaluating_all plan scene (Whole array rest) held ink ≡ evaluating_all plan scene rest (with_value (bases_of plan scene) held (offset_of plan scene array)) ink
unfolding evaluating_all sizes all_strokes
drawn_whole plan scene array rest held ink = refl

drawn_from : (plan : Plan) (scene : Scene) (array : Array) (index : Expression) (site : ℕ) (rest : Arguments) (held : Held) (ink : Ink) → evaluating_all plan scene (From array index site rest) held ink ≡ evaluating_all plan scene rest (viewed plan scene array index held) (seeing plan scene array index site held ink)
unfolding evaluating_all sizes all_strokes viewed seeing coming_to viewing begun placing evaluating yielding
drawn_from plan scene array index site rest held ink =
    let wait = waiting plan scene index held in
    let at = value plan scene index wait.temporaries in
    let kept = begun plan scene array wait at in
    let more = with_value (bases_of plan scene) wait kept in
    let offset = offset_of plan scene array in
    sym (put_after4 (yield_size (bases_of plan scene) (coming index) held.values) (size plan scene index wait.temporaries) (place_size offset at) (sizes plan scene rest more)
    (yield_strokes plan scene (coming index) held.values ink.node held.temporaries)
    (λ node. strokes plan scene index node wait.temporaries)
    (λ node. place_strokes plan scene offset at (pos 0) (pos (cells_in plan scene array)) site node (after (bases_of plan scene) at wait.temporaries) (after (bases_of plan scene) kept wait.temporaries))
    (λ node. all_strokes plan scene rest node more) ink)

-- ---- all arguments of an operator

pub operands_after : (plan : Plan) (scene : Scene) (xs : List (Converted Expression)) (held : Held) → argued_all plan scene xs held ≡ values_after plan scene (values_of xs) held
operands_after plan scene [] held = sym (after_none plan scene held)
operands_after plan scene (x ∷ rest) held =
    operands_after plan scene rest (argued plan scene x.value held) ∙ sym (after_value plan scene x.value x.narrowing (values_of rest) held)

pub operands_drawn : (plan : Plan) (scene : Scene) (xs : List (Converted Expression)) (held : Held) (ink : Ink) → arguing_all plan scene xs held ink ≡ evaluating_all plan scene (values_of xs) held ink
operands_drawn plan scene [] held ink = sym (drawn_none plan scene held ink)
operands_drawn plan scene (x ∷ rest) held ink =
    operands_drawn plan scene rest (argued plan scene x.value held) (arguing plan scene x.value x.narrowing held ink)
    ∙ sym (drawn_value plan scene x.value x.narrowing (values_of rest) held ink)

-- ---- all arguments of a function

pub passed_after : (plan : Plan) (scene : Scene) (xs : List (Passed Expression)) (held : Held) → handed_all plan scene xs held ≡ values_after plan scene (arguments_of xs) held
passed_after plan scene [] held = sym (after_none plan scene held)
passed_after plan scene (passed.Value x ∷ rest) held =
    passed_after plan scene rest (argued plan scene x.value held) ∙ sym (after_value plan scene x.value x.narrowing (arguments_of rest) held)
passed_after plan scene (passed.View (view.Whole array) ∷ rest) held =
    passed_after plan scene rest (with_value (bases_of plan scene) held (offset_of plan scene array)) ∙ sym (after_whole plan scene array (arguments_of rest) held)
passed_after plan scene (passed.View (view.From array index site) ∷ rest) held =
    passed_after plan scene rest (viewed plan scene array index held) ∙ sym (after_from plan scene array index site (arguments_of rest) held)

pub passed_drawn : (plan : Plan) (scene : Scene) (xs : List (Passed Expression)) (held : Held) (ink : Ink) → handing_all plan scene xs held ink ≡ evaluating_all plan scene (arguments_of xs) held ink
passed_drawn plan scene [] held ink = sym (drawn_none plan scene held ink)
passed_drawn plan scene (passed.Value x ∷ rest) held ink =
    passed_drawn plan scene rest (argued plan scene x.value held) (arguing plan scene x.value x.narrowing held ink)
    ∙ sym (drawn_value plan scene x.value x.narrowing (arguments_of rest) held ink)
passed_drawn plan scene (passed.View (view.Whole array) ∷ rest) held ink =
    passed_drawn plan scene rest (with_value (bases_of plan scene) held (offset_of plan scene array)) ink
    ∙ sym (drawn_whole plan scene array (arguments_of rest) held ink)
passed_drawn plan scene (passed.View (view.From array index site) ∷ rest) held ink =
    passed_drawn plan scene rest (viewed plan scene array index held) (seeing plan scene array index site held ink)
    ∙ sym (drawn_from plan scene array index site (arguments_of rest) held ink)
