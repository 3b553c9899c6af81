-- What a pen does with the beginnings and ends of statements, one piece after another.
use Rattle.std.specs.Prelude.{ℕ, suc, ◌+◌, Bool, List, [], ◌∷◌, ◌++◌, Option, if◌then◌else◌}
use Rattle.wm_ops.specs.declared.words.ControlWord.TheVariants as words
use Rattle.wm_program.specs.Tree.{Expression, Effect, Test}
use Rattle.wm_flow.specs.declared.kept.Kept.{Kept}
use Rattle.wm_flow.specs.declared.scene.Scene.{Scene}
use Rattle.wm_flow.specs.Places.{Plan, bases_of}
use Rattle.wm_flow.specs.Strokes.{point}
use Rattle.wm_flow.specs.Tests.{test_size}
use Rattle.wm_flow.specs.Statements.{Around, inside, word_size, ties_size, return_size, return_strokes, stands}
use Rattle.wm_pen.specs.Ink.{Ink, put, ahead}
use Rattle.wm_steps.specs.Moves.{kept_away}
use Rattle.wm_conditions.specs.Draws.{testing}
use Rattle.wm_effects.specs.Draws.{acting_all}
use Rattle.wm_control.specs.Moves.{wording, clearing, jumping, joining, entering, turning, tying}

-- a node that the last edge led to
unfoldable pub pointing : Plan → Scene → Ink → Ink
pointing plan scene ink = put 1 (point plan scene 0 ∷ []) ink

-- ---- if

-- a condition that leads to the next node, or from there elsewhere
unfoldable pub asking : Plan → Scene → Test → (miss : ℕ → ℕ) → Ink → Ink
asking plan scene test miss ink =
    let hit = suc (ink.node + test_size plan scene test) in
    pointing plan scene (testing plan scene test hit (miss hit) ink)

-- the same, as a ruler tells it
unfoldable pub asking_ahead : Plan → Scene → Test → (miss : ℕ → ℕ) → Ink → Ink
asking_ahead plan scene test miss ink =
    let hit = suc (ink.node + ahead ink (test_size plan scene test)) in
    pointing plan scene (testing plan scene test hit (miss hit) ink)

-- the word and the condition, up to the first node of a statement that makes so many nodes
unfoldable pub choosing : Plan → Scene → Bool → Test → (size : ℕ) → Ink → Ink
choosing plan scene is_counted test size ink =
    asking plan scene test (λ hit. suc (hit + size)) (wording plan scene is_counted words.If ink)

-- from the end of the first part to behind the word of the other one, which makes so many nodes
unfoldable pub otherwise_moving : Plan → Scene → Bool → (size : ℕ) → Ink → Ink
otherwise_moving plan scene is_counted size ink =
    wording plan scene is_counted words.Else
    (jumping plan scene (suc (suc ink.node + word_size is_counted + size)) ink)

-- ---- loops up to their conditions

-- the entry and the ties behind it
unfoldable pub opening : Plan → Scene → (loop : ℕ) → Ink → Ink
opening plan scene loop ink = tying plan (inside scene loop) loop (entering plan scene loop ink)

unfoldable pub beginning_for : Plan → Scene → Bool → List Effect → Ink → Ink
beginning_for plan scene is_counted begin ink =
    acting_all plan scene begin (wording plan scene is_counted words.For ink)

unfoldable pub opening_for : Plan → Scene → Bool → (loop : ℕ) → List Effect → Ink → Ink
opening_for plan scene is_counted loop begin ink =
    opening plan scene loop (beginning_for plan scene is_counted begin ink)

-- the node of the head
unfoldable pub for_head : Plan → Scene → Bool → List Effect → Ink → ℕ
for_head plan scene is_counted begin ink = suc (beginning_for plan scene is_counted begin ink).node

unfoldable pub opening_while : Plan → Scene → Bool → (loop : ℕ) → Ink → Ink
opening_while plan scene is_counted loop ink =
    wording plan (inside scene loop) is_counted words.While (opening plan scene loop ink)

unfoldable pub opening_do : Plan → Scene → Bool → (loop : ℕ) → Ink → Ink
opening_do plan scene is_counted loop ink = opening plan scene loop (wording plan scene is_counted words.Do ink)

unfoldable pub do_head : Plan → Scene → Bool → Ink → ℕ
do_head plan scene is_counted ink = suc (wording plan scene is_counted words.Do ink).node

-- the condition of a loop up to the first node of its body, where the scene is inside the loop; the body makes so many
-- nodes, and the step of a for loop so many
unfoldable pub asking_while : Plan → Scene → (loop : ℕ) → Test → (size : ℕ) → Ink → Ink
asking_while plan scene loop test size ink =
    tying plan scene loop (asking plan scene test (λ hit. suc (suc (hit + ties_size plan scene + size))) ink)

unfoldable pub asking_for : Plan → Scene → (loop : ℕ) → Test → (size after : ℕ) → Ink → Ink
asking_for plan scene loop test size after ink =
    tying plan scene loop (asking plan scene test (λ hit. suc (suc (hit + ties_size plan scene + size) + after)) ink)

-- ---- the ends of loops, behind their bodies

-- of a do loop, with its condition
unfoldable pub asking_last : Plan → Scene → Bool → (loop : ℕ) → Test → (head : ℕ) → Ink → Ink
asking_last plan scene is_counted loop test head ink =
    turning plan scene loop head
    (asking plan (inside scene loop) test (λ hit. suc hit)
    (wording plan (inside scene loop) is_counted words.While (joining plan (inside scene loop) 0 ink)))

-- of a for loop, with its step
unfoldable pub closing_for : Plan → Scene → (loop : ℕ) → List Effect → (head : ℕ) → Ink → Ink
closing_for plan scene loop after head ink =
    turning plan scene loop head (acting_all plan (inside scene loop) after (joining plan (inside scene loop) 0 ink))

unfoldable pub closing_while : Plan → Scene → (loop head : ℕ) → Ink → Ink
closing_while plan scene loop head ink = turning plan scene loop head (joining plan (inside scene loop) 0 ink)

-- ---- returns

-- a value goes to the temporary of the exit
unfoldable pub placing : Plan → Scene → Kept → Ink → Ink
placing plan scene kept ink =
    if stands (bases_of plan scene) kept then ink else kept_away plan scene 0 kept ink

unfoldable pub returning : Plan → Scene → Around → Expression → Option ℕ → Ink → Ink
returning plan scene around x narrowing ink =
    put (return_size plan scene around x narrowing) (return_strokes plan scene around x narrowing ink.node) ink

unfoldable pub leaving : Plan → Scene → Around → Ink → Ink
leaving plan scene around ink =
    jumping plan scene around.exit (clearing plan scene (around.near ++ around.far) 0 ink)
