-- The edges of loops.
use Rattle.std.proofs.Common.{◌≡◌, ℕ, suc, ◌+◌, List, [], ◌∷◌, ◌++◌, Some, None, length, drop, ◌≤◌, refl, ap, sym, ◌∙◌, append_assoc, arith}
use Rattle.std.proofs.lemmas.List.{at_drop_all}
use Rattle.wm_flow.specs.declared.graph.Sum.{Sum}
use Rattle.wm_flow.specs.declared.scene.Scene.{Scene}
use Rattle.wm_flow.specs.declared.scene.Bases.{Bases}
use Rattle.wm_flow.specs.Plain.{Doing, Tie}
use Rattle.wm_flow.specs.Places.{Plan, head_of, bases_of, counter, first_sum, sums_in}
use Rattle.wm_flow.specs.Strokes.{Line, Begins, Turns, point, step}
use Rattle.wm_flow.specs.Statements as statements
use Rattle.wm_flow.specs.Statements.{inside, resetting, step_of, sum_places, ties_from, ties_strokes, enter_strokes, turn_strokes}
use Rattle.wm_pen.specs.Ink.{Ink, put}
use Rattle.wm_pen.proofs.Joins.{put_none, put_after, put_after3}
use Rattle.wm_steps.specs.Moves.{stepped}
use Rattle.wm_control.specs.Moves.{entering, turning, tying, tying_from}

pub entering_joins : (plan : Plan) (scene : Scene) (loop : ℕ) (ink : Ink) → put 1 (point plan (inside scene loop) 0 ∷ []) (put 0 (Begins (head_of plan.tables scene.instance loop) (Some scene.instance) (Some loop) (suc ink.node) ∷ []) (put 0 (Line ink.node (suc ink.node) (resetting plan (inside scene loop)) None ∷ []) ink)) ≡ entering plan scene loop ink
unfolding entering enter_strokes
entering_joins plan scene loop ink =
    put_after3 0 0 1 (Line ink.node (suc ink.node) (resetting plan (inside scene loop)) None ∷ []) (λ node. Begins (head_of plan.tables scene.instance loop) (Some scene.instance) (Some loop) (suc ink.node) ∷ []) (λ node. point plan (inside scene loop) 0 ∷ []) ink

pub turning_joins : (plan : Plan) (scene : Scene) (loop head : ℕ) (ink : Ink) → put 1 (point plan scene 0 ∷ []) (put 0 (Turns (head_of plan.tables scene.instance loop) ∷ []) (put 0 (Line ink.node head (statements.turning plan (inside scene loop) loop) None ∷ []) ink)) ≡ turning plan scene loop head ink
unfolding turning turn_strokes
turning_joins plan scene loop head ink =
    put_after3 0 0 1 (Line ink.node head (statements.turning plan (inside scene loop) loop) None ∷ []) (λ node. Turns (head_of plan.tables scene.instance loop) ∷ []) (λ node. point plan scene 0 ∷ []) ink

pub tying_none : (plan : Plan) (scene : Scene) (loop variable : ℕ) (ink : Ink) → tying_from plan scene loop variable [] ink ≡ ink
unfolding tying_from
tying_none plan scene loop variable ink = put_none ink

pub tying_next : (plan : Plan) (scene : Scene) (loop variable : ℕ) (sum : Sum) (rest : List Sum) (ink : Ink) → tying_from plan scene loop variable (sum ∷ rest) ink ≡ tying_from plan scene loop (suc variable) rest (stepped plan scene (Tie (counter (bases_of plan scene)) (step_of plan loop) variable sum.step) None 0 ink)
unfolding tying_from stepped
tying_next plan scene loop variable sum rest ink =
    let doing = Tie (counter (bases_of plan scene)) (step_of plan loop) variable sum.step in
    let n = length rest in
    let first = step plan scene ink.node doing None 0 in
    let e : 1 + n ≡ suc n = omega arith in
    let h : ink.node + 1 ≡ suc ink.node = omega arith in
    sym (put_after 1 n first (λ node. ties_from plan scene loop (suc variable) rest node) ink
    ∙ (ap (λ k. put k (first ++ ties_from plan scene loop (suc variable) rest (ink.node + 1)) ink) e
    ∙ ap (λ k. put (suc n) (first ++ ties_from plan scene loop (suc variable) rest k) ink) h))

-- a turn over sum counters, and its end
pub tying_turn : (plan : Plan) (scene : Scene) (loop : ℕ) (sums : List Sum) (i : ℕ) (sum : Sum) (variable next : ℕ) (ink drawn whole : Ink) → drop i sums ≡ sum ∷ drop (i + 1) sums → next ≡ suc variable → drawn ≡ stepped plan scene (Tie (counter (bases_of plan scene)) (step_of plan loop) variable sum.step) None 0 ink → tying_from plan scene loop variable (drop i sums) ink ≡ whole → tying_from plan scene loop next (drop (i + 1) sums) drawn ≡ whole
tying_turn plan scene loop sums i sum variable next ink drawn whole more grown steps left =
    ap (λ v. tying_from plan scene loop v (drop (i + 1) sums) drawn) grown
    ∙ (ap (λ (k : Ink). tying_from plan scene loop (suc variable) (drop (i + 1) sums) k) steps
    ∙ (sym (tying_next plan scene loop variable sum (drop (i + 1) sums) ink)
    ∙ (sym (ap (λ (xs : List Sum). tying_from plan scene loop variable xs ink) more) ∙ left)))

pub tying_ended : (plan : Plan) (scene : Scene) (loop variable : ℕ) (sums : List Sum) (i : ℕ) (ink whole : Ink) → length sums ≤ i → tying_from plan scene loop variable (drop i sums) ink ≡ whole → ink ≡ whole
tying_ended plan scene loop variable sums i ink whole past left =
    sym (tying_none plan scene loop variable ink)
    ∙ (sym (at_drop_all (λ (xs : List Sum). tying_from plan scene loop variable xs ink) sums i past) ∙ left)

-- a turn over the places of sum counters
pub places_turn : (sums : List Sum) (i : ℕ) (sum : Sum) (variable next : ℕ) (list more whole : List ℕ) → drop i sums ≡ sum ∷ drop (i + 1) sums → next ≡ suc variable → more ≡ list ++ variable ∷ [] → list ++ sum_places variable (drop i sums) ≡ whole → more ++ sum_places next (drop (i + 1) sums) ≡ whole
places_turn sums i sum variable next list more whole rest grown longer left =
    ap (λ v. more ++ sum_places v (drop (i + 1) sums)) grown
    ∙ (ap (λ (xs : List ℕ). xs ++ sum_places (suc variable) (drop (i + 1) sums)) longer
    ∙ (append_assoc list (variable ∷ []) (sum_places (suc variable) (drop (i + 1) sums))
    ∙ (sym (ap (λ (xs : List Sum). list ++ sum_places variable xs) rest) ∙ left)))

-- with what was told of each number
pub entering_is : (plan : Plan) (scene within : Scene) (loop head node target : ℕ) (doing : Doing) (ink lined begun new : Ink) → within ≡ inside scene loop → node ≡ ink.node → target ≡ suc node → head ≡ head_of plan.tables scene.instance loop → doing ≡ resetting plan within → lined ≡ put 0 (Line node target doing None ∷ []) ink → begun ≡ put 0 (Begins head (Some scene.instance) (Some loop) target ∷ []) lined → new ≡ put 1 (point plan within 0 ∷ []) begun → new ≡ entering plan scene loop ink
entering_is plan scene within loop head node target doing ink lined begun new h1 h2 h3 h4 h5 h6 h7 h8 =
    let e = entering_joins plan scene loop ink in
    cc

pub turning_is : (plan : Plan) (scene within : Scene) (loop head number node : ℕ) (doing : Doing) (ink lined begun new : Ink) → within ≡ inside scene loop → node ≡ ink.node → number ≡ head_of plan.tables scene.instance loop → doing ≡ statements.turning plan within loop → lined ≡ put 0 (Line node head doing None ∷ []) ink → begun ≡ put 0 (Turns number ∷ []) lined → new ≡ put 1 (point plan scene 0 ∷ []) begun → new ≡ turning plan scene loop head ink
turning_is plan scene within loop head number node doing ink lined begun new h1 h2 h3 h4 h5 h6 h7 =
    let e = turning_joins plan scene loop head ink in
    cc

pub tying_is : (plan : Plan) (scene : Scene) (loop first : ℕ) (sums : List Sum) (bases : Bases) (ink : Ink) → bases ≡ bases_of plan scene → first ≡ first_sum bases → sums ≡ sums_in plan scene.instance scene.inner → tying_from plan scene loop first sums ink ≡ tying plan scene loop ink
unfolding tying tying_from ties_strokes
tying_is plan scene loop first sums bases ink h1 h2 h3 =
    let e : first ≡ first_sum (bases_of plan scene) = h2 ∙ ap (λ (it : Bases). first_sum it) h1 in
    ap (λ v. tying_from plan scene loop v sums ink) e
    ∙ ap (λ (xs : List Sum). tying_from plan scene loop (first_sum (bases_of plan scene)) xs ink) h3
