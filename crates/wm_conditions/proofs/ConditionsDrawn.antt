-- Each kind of condition, and conditions one after another.
use Rattle.std.proofs.Common.{◌≡◌, ℕ, suc, ◌+◌, Bool, true, false, List, [], ◌∷◌, ◌++◌, None, map, length, refl, ap, sym, ◌∙◌, append_assoc, ne_eqb, arith}
use Rattle.std.specs.Prelude.{◌==◌}
use Rattle.wm_program.specs.declared.tree.Comparison.{Comparison}
use Rattle.wm_program.specs.declared.tree.Condition.{Condition}
use Rattle.wm_program.specs.declared.tree.Condition.TheVariants as condition
use Rattle.wm_program.specs.declared.tree.Expr.{Expr}
use Rattle.wm_program.specs.Tree.{Test, Always, Either, Both, Not, Compare, Truth}
use Rattle.wm_program.specs.Trees.{expression_of, test_of, either_of, both_of}
use Rattle.wm_flow.specs.declared.scene.Scene.{Scene}
use Rattle.wm_flow.specs.Places.{Plan}
use Rattle.wm_flow.specs.Strokes.{Stroke, Line, nothing, point}
use Rattle.wm_flow.specs.Tests.{compared, compared_number, test_size, test_strokes}
use Rattle.wm_applied.proofs.Levels.{of_or, of_and, of_not, of_compare, of_truth}
use Rattle.wm_pen.specs.Ink.{Ink, put, ruler, is_rest}
use Rattle.wm_pen.proofs.Joins.{put_after, put_twice, put_ahead, ruled, rested}
use Rattle.wm_conditions.specs.Draws.{testing}
use Rattle.wm_conditions.specs.Steps.{deciding, hit_of, miss_of, passing, parting, is_done, following}

-- ---- one that is not the last

pub passing_joins : (plan : Plan) (scene : Scene) (any : Bool) (c : Test) (hit miss : ℕ) (ink : Ink) → put 1 (point plan scene 0 ∷ []) (testing plan scene c (hit_of any hit (suc (ink.node + (testing plan scene c 0 0 (ruler ink)).node))) (miss_of any miss (suc (ink.node + (testing plan scene c 0 0 (ruler ink)).node))) ink) ≡ passing plan scene any c hit miss ink
unfolding testing passing
passing_joins plan scene any c hit miss ink =
    let s = test_size plan scene c in
    let f = λ (n : ℕ). test_strokes plan scene c ink.node (hit_of any hit (suc (ink.node + n))) (miss_of any miss (suc (ink.node + n))) in
    ap (λ (n : ℕ). put 1 (point plan scene 0 ∷ []) (put s (f n) ink)) (ruled s (test_strokes plan scene c 0 0 0) ink)
    ∙ (ap (λ (k : Ink). put 1 (point plan scene 0 ∷ []) k) (put_ahead s s f ink)
    ∙ put_twice s 1 (f s) (point plan scene 0 ∷ []) ink)

-- ---- several

either_joins : (plan : Plan) (scene : Scene) (c d : Test) (hit miss : ℕ) (ink : Ink) → testing plan scene d hit miss (passing plan scene true c hit miss ink) ≡ testing plan scene (Either c d) hit miss ink
unfolding testing passing test_size test_strokes
either_joins plan scene c d hit miss ink =
    let s = test_size plan scene c in
    let e : ink.node + (s + 1) ≡ suc (ink.node + s) = omega arith in
    let first = test_strokes plan scene c ink.node hit (suc (ink.node + s)) ++ point plan scene 0 ∷ [] in
    put_after (s + 1) (test_size plan scene d) first (λ node. test_strokes plan scene d node hit miss) ink
    ∙ (ap (λ n. put (s + 1 + test_size plan scene d) (first ++ test_strokes plan scene d n hit miss) ink) e
    ∙ ap (λ (xs : List Stroke). put (s + 1 + test_size plan scene d) xs ink) (append_assoc (test_strokes plan scene c ink.node hit (suc (ink.node + s))) (point plan scene 0 ∷ []) (test_strokes plan scene d (suc (ink.node + s)) hit miss)))

both_joins : (plan : Plan) (scene : Scene) (c d : Test) (hit miss : ℕ) (ink : Ink) → testing plan scene d hit miss (passing plan scene false c hit miss ink) ≡ testing plan scene (Both c d) hit miss ink
unfolding testing passing test_size test_strokes
both_joins plan scene c d hit miss ink =
    let s = test_size plan scene c in
    let e : ink.node + (s + 1) ≡ suc (ink.node + s) = omega arith in
    let first = test_strokes plan scene c ink.node (suc (ink.node + s)) miss ++ point plan scene 0 ∷ [] in
    put_after (s + 1) (test_size plan scene d) first (λ node. test_strokes plan scene d node hit miss) ink
    ∙ (ap (λ n. put (s + 1 + test_size plan scene d) (first ++ test_strokes plan scene d n hit miss) ink) e
    ∙ ap (λ (xs : List Stroke). put (s + 1 + test_size plan scene d) xs ink) (append_assoc (test_strokes plan scene c ink.node (suc (ink.node + s)) miss) (point plan scene 0 ∷ []) (test_strokes plan scene d (suc (ink.node + s)) hit miss)))

any_follow : (plan : Plan) (scene : Scene) (c : Test) (rest : List Test) (hit miss : ℕ) (ink : Ink) → following plan scene true rest hit miss (parting plan scene true (is_done rest) c hit miss ink) ≡ testing plan scene (either_of c rest) hit miss ink
unfolding parting
any_follow plan scene c [] hit miss ink = refl
any_follow plan scene c (d ∷ rest) hit miss ink =
    any_follow plan scene d rest hit miss (passing plan scene true c hit miss ink) ∙ either_joins plan scene c (either_of d rest) hit miss ink

all_follow : (plan : Plan) (scene : Scene) (c : Test) (rest : List Test) (hit miss : ℕ) (ink : Ink) → following plan scene false rest hit miss (parting plan scene false (is_done rest) c hit miss ink) ≡ testing plan scene (both_of c rest) hit miss ink
unfolding parting
all_follow plan scene c [] hit miss ink = refl
all_follow plan scene c (d ∷ rest) hit miss ink =
    all_follow plan scene d rest hit miss (passing plan scene false c hit miss ink) ∙ both_joins plan scene c (both_of d rest) hit miss ink

-- the last one is told by the number of those that are left
pub done_at : (rest : List Condition) → is_done (map test_of rest) ≡ (length rest == 0)
done_at [] = refl
done_at (c ∷ rest) =
    let e : (suc (length rest) == 0) ≡ false = ne_eqb _ _ (omega arith) in
    sym e

-- ---- the variants of the declared tree

pub on_or : (plan : Plan) (scene : Scene) (first : Condition) (rest : List Condition) (hit miss : ℕ) (ink : Ink) → testing plan scene (test_of (condition.Or first rest)) hit miss ink ≡ following plan scene true (map test_of rest) hit miss (parting plan scene true (length rest == 0) (test_of first) hit miss ink)
on_or plan scene first rest hit miss ink =
    ap (λ (c : Test). testing plan scene c hit miss ink) (of_or first rest)
    ∙ (sym (any_follow plan scene (test_of first) (map test_of rest) hit miss ink)
    ∙ ap (λ (last : Bool). following plan scene true (map test_of rest) hit miss (parting plan scene true last (test_of first) hit miss ink)) (done_at rest))

pub on_and : (plan : Plan) (scene : Scene) (first : Condition) (rest : List Condition) (hit miss : ℕ) (ink : Ink) → testing plan scene (test_of (condition.And first rest)) hit miss ink ≡ following plan scene false (map test_of rest) hit miss (parting plan scene false (length rest == 0) (test_of first) hit miss ink)
on_and plan scene first rest hit miss ink =
    ap (λ (c : Test). testing plan scene c hit miss ink) (of_and first rest)
    ∙ (sym (all_follow plan scene (test_of first) (map test_of rest) hit miss ink)
    ∙ ap (λ (last : Bool). following plan scene false (map test_of rest) hit miss (parting plan scene false last (test_of first) hit miss ink)) (done_at rest))

turned : (plan : Plan) (scene : Scene) (c : Test) (hit miss : ℕ) (ink : Ink) → testing plan scene (Not c) hit miss ink ≡ testing plan scene c miss hit ink
unfolding testing test_size test_strokes
turned plan scene c hit miss ink = refl

pub on_not : (plan : Plan) (scene : Scene) (c : Condition) (hit miss : ℕ) (ink : Ink) → testing plan scene (test_of (condition.Not c)) hit miss ink ≡ testing plan scene (test_of c) miss hit ink
on_not plan scene c hit miss ink = ap (λ (c : Test). testing plan scene c hit miss ink) (of_not c) ∙ turned plan scene (test_of c) hit miss ink

compared_drawn : (plan : Plan) (scene : Scene) (left : Expr) (mark : Comparison) (right : Expr) (hit miss : ℕ) (ink : Ink) → testing plan scene (Compare (expression_of left) mark (expression_of right)) hit miss ink ≡ deciding plan scene (compared (expression_of left) mark (expression_of right)) hit miss ink
unfolding testing test_size test_strokes deciding
compared_drawn plan scene left mark right hit miss ink = refl

pub on_compare : (plan : Plan) (scene : Scene) (left : Expr) (mark : Comparison) (right : Expr) (hit miss : ℕ) (ink : Ink) → testing plan scene (test_of (condition.Compare left mark right)) hit miss ink ≡ deciding plan scene (compared (expression_of left) mark (expression_of right)) hit miss ink
on_compare plan scene left mark right hit miss ink = ap (λ (c : Test). testing plan scene c hit miss ink) (of_compare left mark right) ∙ compared_drawn plan scene left mark right hit miss ink

number_drawn : (plan : Plan) (scene : Scene) (x : Expr) (hit miss : ℕ) (ink : Ink) → testing plan scene (Truth (expression_of x)) hit miss ink ≡ deciding plan scene (compared_number (expression_of x)) hit miss ink
unfolding testing test_size test_strokes deciding
number_drawn plan scene x hit miss ink = refl

pub on_truth : (plan : Plan) (scene : Scene) (x : Expr) (hit miss : ℕ) (ink : Ink) → testing plan scene (test_of (condition.Truth x)) hit miss ink ≡ deciding plan scene (compared_number (expression_of x)) hit miss ink
on_truth plan scene x hit miss ink = ap (λ (c : Test). testing plan scene c hit miss ink) (of_truth x) ∙ number_drawn plan scene x hit miss ink

-- a pen that rests stays where it is
pub on_rest : (plan : Plan) (scene : Scene) (c : Test) (hit miss : ℕ) (ink : Ink) → is_rest ink.mode ≡ true → testing plan scene c hit miss ink ≡ ink
unfolding testing
on_rest plan scene c hit miss ink h = rested (test_size plan scene c) (test_strokes plan scene c ink.node hit miss) ink h

pub always : (plan : Plan) (scene : Scene) (hit miss : ℕ) (ink : Ink) → testing plan scene Always hit miss ink ≡ put 0 (Line ink.node hit nothing None ∷ []) ink
unfolding testing test_size test_strokes
always plan scene hit miss ink = refl
