-- Returns with a value.
use Rattle.std.proofs.Common.{◌≡◌, ℕ, suc, ◌+◌, Bool, true, false, if◌then◌else◌, List, [], ◌∷◌, ◌++◌, Option, refl, ap, sym, ◌∙◌, append_assoc, arith}
use Rattle.wm_program.specs.Tree.{Expression}
use Rattle.wm_flow.specs.declared.kept.Kept.{Kept}
use Rattle.wm_flow.specs.declared.scene.Scene.{Scene}
use Rattle.wm_flow.specs.Places.{Plan, bases_of}
use Rattle.wm_flow.specs.declared.scene.Bases.{Bases}
use Rattle.wm_flow.specs.Yields.{after, to_temporary}
use Rattle.wm_flow.specs.Expressions.{value, size, strokes, behind, narrow_size, narrow_strokes}
use Rattle.wm_flow.specs.Statements.{Around, stands, placed_size, placed_strokes, clear_size, clear_strokes, jump, return_size, return_strokes}
use Rattle.wm_pen.specs.Ink.{Ink, put}
use Rattle.wm_pen.proofs.Joins.{put_none}
use Rattle.wm_steps.specs.Moves.{kept_away, narrowing}
use Rattle.wm_values.specs.Draws.{evaluating}
use Rattle.wm_control.specs.Moves.{clearing, jumping}
use Rattle.wm_control.specs.Pieces.{Many, One}
use Rattle.wm_control.proofs.PiecesJoin.{pieces_are}
use Rattle.wm_arms.specs.Moves.{placing, returning}

placed_as : (b : Bool) (plan : Plan) (scene : Scene) (kept : Kept) (ink : Ink) → (if b then ink else kept_away plan scene 0 kept ink) ≡ put (if b then 0 else 1) (if b then [] else to_temporary plan scene ink.node 0 kept) ink
unfolding kept_away
placed_as true plan scene kept ink = sym (put_none ink)
placed_as false plan scene kept ink = refl

placed : (plan : Plan) (scene : Scene) (kept : Kept) (ink : Ink) → placing plan scene kept ink ≡ put (placed_size (bases_of plan scene) kept) (placed_strokes plan scene kept ink.node) ink
unfolding placing
placed plan scene kept ink = placed_as (stands (bases_of plan scene) kept) plan scene kept ink

pub returning_joins : (plan : Plan) (scene : Scene) (around : Around) (x : Expression) (site : Option ℕ) (ink : Ink) → jumping plan scene around.exit (clearing plan scene (around.near ++ around.far) 1 (placing plan scene (value plan scene x 0) (narrowing plan scene site (value plan scene x 0) (behind plan scene x 0) (evaluating plan scene x 0 ink)))) ≡ returning plan scene around x site ink
unfolding jumping clearing narrowing evaluating returning return_size return_strokes
returning_joins plan scene around x site ink =
    let kept = value plan scene x 0 in
    let locals = around.near ++ around.far in
    let s = size plan scene x 0 in
    let n = narrow_size site in
    let p = placed_size (bases_of plan scene) kept in
    let c = clear_size plan scene locals in
    let e : s + (n + (p + (c + 1))) ≡ s + n + p + c + 1 = omega arith in
    ap (λ (it : Ink). jumping plan scene around.exit (clearing plan scene locals 1 it)) (placed plan scene kept (narrowing plan scene site kept (behind plan scene x 0) (evaluating plan scene x 0 ink)))
    ∙ pieces_are (
    Many s (λ node. strokes plan scene x node 0)
    ∷ Many n (λ node. narrow_strokes plan scene site kept node (behind plan scene x 0))
    ∷ Many p (λ node. placed_strokes plan scene kept node)
    ∷ Many c (λ node. clear_strokes plan scene locals node 1)
    ∷ One (λ node. jump plan scene node around.exit) ∷ []
    ) (s + n + p + c + 1) (return_strokes plan scene around x site ink.node) ink e (simp append_assoc)

-- with what was told of each number
pub returning_is : (plan : Plan) (scene : Scene) (around : Around) (x : Expression) (site : Option ℕ) (bases : Bases) (kept : Kept) (count : ℕ) (ink evaluated narrowed placed_there cleared new : Ink) → bases ≡ bases_of plan scene → kept ≡ value plan scene x 0 → count ≡ after bases kept 0 → evaluated ≡ evaluating plan scene x 0 ink → narrowed ≡ narrowing plan scene site kept count evaluated → placed_there ≡ placing plan scene kept narrowed → cleared ≡ clearing plan scene (around.near ++ around.far) 1 placed_there → new ≡ jumping plan scene around.exit cleared → new ≡ returning plan scene around x site ink
returning_is plan scene around x site bases kept count ink evaluated narrowed placed_there cleared new h1 h2 h3 h4 h5 h6 h7 h8 =
    let v = value plan scene x 0 in
    let it = evaluating plan scene x 0 ink in
    let e1 : count ≡ behind plan scene x 0 = h3 ∙ (ap (λ (b : Bases). after b kept 0) h1 ∙ ap (λ (q : Kept). after (bases_of plan scene) q 0) h2) in
    let e2 : narrowed ≡ narrowing plan scene site v (behind plan scene x 0) it = h5 ∙ (ap (λ (q : Kept). narrowing plan scene site q count evaluated) h2 ∙ (ap (λ n. narrowing plan scene site v n evaluated) e1 ∙ ap (λ (k : Ink). narrowing plan scene site v (behind plan scene x 0) k) h4)) in
    let e3 : placed_there ≡ placing plan scene v (narrowing plan scene site v (behind plan scene x 0) it) = h6 ∙ (ap (λ (q : Kept). placing plan scene q narrowed) h2 ∙ ap (λ (k : Ink). placing plan scene v k) e2) in
    h8 ∙ (ap (λ (k : Ink). jumping plan scene around.exit k) (h7 ∙ ap (λ (k : Ink). clearing plan scene (around.near ++ around.far) 1 k) e3)
    ∙ returning_joins plan scene around x site ink)
