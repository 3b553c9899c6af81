-- The steps of a condition: the two sides of a comparison, and conditions one after another.
use Rattle.std.specs.Prelude.{ℕ, suc, ◌+◌, Bool, true, false, if◌then◌else◌, List, [], ◌∷◌, ◌++◌, pos, slice_index_or}
use Rattle.wm_ops.specs.declared.operators.Op.{Op}
use Rattle.wm_program.specs.Tree.{Expression, Arguments, Test}
use Rattle.wm_flow.specs.declared.scene.Scene.{Scene}
use Rattle.wm_flow.specs.declared.scene.Sides.{Sides}
use Rattle.wm_flow.specs.Kept.{constant}
use Rattle.wm_flow.specs.Places.{Plan, bases_of, temporary}
use Rattle.wm_flow.specs.Strokes.{point}
use Rattle.wm_flow.specs.Yields.{coming, after}
use Rattle.wm_flow.specs.Expressions.{value, values_after, no_values, operands, behind}
use Rattle.wm_flow.specs.Tests.{Compared, sides_of, evaluation_size, evaluation_strokes, compared_size, compared_strokes, test_size, test_strokes}
use Rattle.wm_pen.specs.Ink.{Ink, put}
use Rattle.wm_steps.specs.Moves as moves
use Rattle.wm_values.specs.Draws.{evaluating, evaluating_all}
use Rattle.wm_values.specs.Turns.{first_waits}
use Rattle.wm_conditions.specs.Draws.{testing}

-- ---- the sides

-- two numbers: the left one waits while the right one is evaluated
unfoldable pub plain_sides : Plan → Scene → Expression → Expression → Sides
plain_sides plan scene x y =
    let wait = first_waits plan scene y (value plan scene x 0) 0 in
    record {
      left = wait.value;
      right = value plan scene y wait.temporaries;
      temporaries = behind plan scene y wait.temporaries;
    }

unfoldable pub plain_siding : Plan → Scene → Expression → Expression → Ink → Ink
plain_siding plan scene x y ink =
    let a = value plan scene x 0 in
    evaluating plan scene y (first_waits plan scene y a 0).temporaries
    (moves.waiting plan scene (coming y) a (after (bases_of plan scene) a 0) (evaluating plan scene x 0 ink))

-- the arguments of a subtraction, once it has been applied
unfoldable pub applied_sides : Plan → Scene → Arguments → Sides
applied_sides plan scene args =
    let own = operands (bases_of plan scene) (values_after plan scene args (no_values plan scene 0)) in
    record {
      left = slice_index_or own.values 0 (constant (pos 0));
      right = slice_index_or own.values 1 (constant (pos 0));
      temporaries = suc own.temporaries;
    }

unfoldable pub applied_siding : Plan → Scene → Op → Arguments → (site : ℕ) → Ink → Ink
applied_siding plan scene op args site ink =
    let held = values_after plan scene args (no_values plan scene 0) in
    let own = operands (bases_of plan scene) held in
    moves.operating plan scene op site held (temporary (bases_of plan scene) own.temporaries) (suc own.temporaries)
    (evaluating_all plan scene args (no_values plan scene 0) ink)

-- the sides when they have been evaluated
unfoldable pub sides_at : Plan → Scene → Compared → Sides
sides_at plan scene it = sides_of plan scene it

-- what stands before the sides are compared
unfoldable pub preparing : Plan → Scene → Compared → Ink → Ink
preparing plan scene it ink = put (evaluation_size plan scene it) (evaluation_strokes plan scene it ink.node) ink

-- a whole comparison
unfoldable pub deciding : Plan → Scene → Compared → (hit miss : ℕ) → Ink → Ink
deciding plan scene it hit miss ink = put (compared_size plan scene it) (compared_strokes plan scene it ink.node hit miss) ink

-- ---- conditions one after another, where `any` says whether the first that holds decides

-- where one that is not the last leads
abbrev pub hit_of : Bool → (hit between : ℕ) → ℕ
hit_of any hit between = if any then hit else between

abbrev pub miss_of : Bool → (miss between : ℕ) → ℕ
miss_of any miss between = if any then between else miss

-- one that is not the last, and the node at which the next begins
unfoldable pub passing : Plan → Scene → (any : Bool) → Test → (hit miss : ℕ) → Ink → Ink
passing plan scene any c hit miss ink =
    let between = suc (ink.node + test_size plan scene c) in
    put (test_size plan scene c + 1)
    (test_strokes plan scene c ink.node (hit_of any hit between) (miss_of any miss between) ++ point plan scene 0 ∷ []) ink

unfoldable pub parting : Plan → Scene → (any last : Bool) → Test → (hit miss : ℕ) → Ink → Ink
parting plan scene any last c hit miss ink =
    if last then testing plan scene c hit miss ink else passing plan scene any c hit miss ink

abbrev pub is_done : List Test → Bool
is_done [] = true
is_done (c ∷ rest) = false

abbrev pub following : Plan → Scene → (any : Bool) → List Test → (hit miss : ℕ) → Ink → Ink
following plan scene any [] hit miss ink = ink
following plan scene any (c ∷ rest) hit miss ink =
    following plan scene any rest hit miss (parting plan scene any (is_done rest) c hit miss ink)
