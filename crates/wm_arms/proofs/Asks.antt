-- Where a condition leads is told by a ruler.
use Rattle.std.proofs.Common.{◌≡◌, ℕ, suc, ◌+◌, Bool, List, [], ◌∷◌, ◌++◌, refl, ap, sym, ◌∙◌, arith}
use Rattle.wm_ops.specs.declared.words.ControlWord.TheVariants as words
use Rattle.wm_program.specs.Tree.{Test}
use Rattle.wm_flow.specs.declared.scene.Scene.{Scene}
use Rattle.wm_flow.specs.Places.{Plan}
use Rattle.wm_flow.specs.Tests.{test_size, test_strokes}
use Rattle.wm_flow.specs.Statements.{inside, word_size, word_strokes, ties_size}
use Rattle.wm_pen.specs.Ink.{Ink, put, ahead, ruler}
use Rattle.wm_pen.proofs.Joins.{put_ahead, put_twice, ruled}
use Rattle.wm_conditions.specs.Draws.{testing}
use Rattle.wm_control.specs.Moves.{wording, joining, turning, tying}
use Rattle.wm_arms.specs.Moves.{pointing, asking, asking_ahead, choosing, asking_while, asking_for, asking_last}

asked : (plan : Plan) (scene : Scene) (test : Test) (miss : ℕ → ℕ) (ink : Ink) → pointing plan scene (testing plan scene test (suc (ink.node + ahead ink (test_size plan scene test))) (miss (suc (ink.node + ahead ink (test_size plan scene test)))) ink) ≡ asking plan scene test miss ink
unfolding asking testing
asked plan scene test miss ink =
    ap (λ (it : Ink). pointing plan scene it)
    (put_ahead (test_size plan scene test) (test_size plan scene test) (λ n. test_strokes plan scene test ink.node (suc (ink.node + n)) (miss (suc (ink.node + n)))) ink)

pub choosing_asks : (plan : Plan) (scene : Scene) (is_counted : Bool) (test : Test) (size : ℕ) (ink : Ink) → asking_ahead plan scene test (λ hit. suc (hit + size)) (wording plan scene is_counted words.If ink) ≡ choosing plan scene is_counted test size ink
unfolding asking_ahead choosing
choosing_asks plan scene is_counted test size ink = asked plan scene test (λ hit. suc (hit + size)) (wording plan scene is_counted words.If ink)

pub while_asks : (plan : Plan) (scene : Scene) (loop : ℕ) (test : Test) (size : ℕ) (ink : Ink) → tying plan scene loop (asking_ahead plan scene test (λ hit. suc (suc (hit + ties_size plan scene + size))) ink) ≡ asking_while plan scene loop test size ink
unfolding asking_ahead asking_while
while_asks plan scene loop test size ink =
    ap (λ (it : Ink). tying plan scene loop it) (asked plan scene test (λ hit. suc (suc (hit + ties_size plan scene + size))) ink)

pub for_asks : (plan : Plan) (scene : Scene) (loop : ℕ) (test : Test) (size after : ℕ) (ink : Ink) → tying plan scene loop (asking_ahead plan scene test (λ hit. suc (suc (hit + ties_size plan scene + size) + after)) ink) ≡ asking_for plan scene loop test size after ink
unfolding asking_ahead asking_for
for_asks plan scene loop test size after ink =
    ap (λ (it : Ink). tying plan scene loop it) (asked plan scene test (λ hit. suc (suc (hit + ties_size plan scene + size) + after)) ink)

pub last_asks : (plan : Plan) (scene : Scene) (is_counted : Bool) (loop : ℕ) (test : Test) (head : ℕ) (ink : Ink) → turning plan scene loop head (asking_ahead plan (inside scene loop) test (λ hit. suc hit) (wording plan (inside scene loop) is_counted words.While (joining plan (inside scene loop) 0 ink))) ≡ asking_last plan scene is_counted loop test head ink
unfolding asking_ahead asking_last
last_asks plan scene is_counted loop test head ink =
    ap (λ (it : Ink). turning plan scene loop head it) (asked plan (inside scene loop) test (λ hit. suc hit) (wording plan (inside scene loop) is_counted words.While (joining plan (inside scene loop) 0 ink)))

pub tail_ruled : (plan : Plan) (scene : Scene) (is_counted : Bool) (test : Test) (ink : Ink) → (testing plan scene test 0 0 (wording plan scene is_counted words.While (ruler ink))).node ≡ ahead ink (word_size is_counted + test_size plan scene test)
unfolding testing wording
tail_ruled plan scene is_counted test ink =
    let w = word_strokes plan scene is_counted words.While (ruler ink).node in
    let second = put (word_size is_counted) w (ruler ink) in
    ap (λ (it : Ink). it.node) (put_twice (word_size is_counted) (test_size plan scene test) w (test_strokes plan scene test second.node 0 0) (ruler ink))
    ∙ ruled (word_size is_counted + test_size plan scene test) (w ++ test_strokes plan scene test second.node 0 0) ink
