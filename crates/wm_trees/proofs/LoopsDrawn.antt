-- Loops.
use Rattle.std.proofs.Common.{◌≡◌, ℕ, suc, ◌+◌, Bool, List, [], ◌∷◌, ◌++◌, refl, ap, sym, ◌∙◌, append_assoc, arith}
use Rattle.wm_ops.specs.declared.words.ControlWord.TheVariants as words
use Rattle.wm_program.specs.Tree.{Test, Tree, Effect, For, While, Do}
use Rattle.wm_flow.specs.declared.scene.Scene.{Scene}
use Rattle.wm_flow.specs.Places.{Plan}
use Rattle.wm_flow.specs.Strokes.{Stroke, point}
use Rattle.wm_flow.specs.Tests.{test_size, test_strokes}
use Rattle.wm_flow.specs.Effects.{effects_size, effects_strokes}
use Rattle.wm_flow.specs.Statements.{Around, in_loop, inside, word_size, word_strokes, ties_size, ties_strokes, enter_strokes, turn_strokes, join, tree_size, tree_strokes}
use Rattle.wm_pen.specs.declared.pen.Mode.{Mode}
use Rattle.wm_pen.specs.declared.pen.Mode.TheVariants.{Draws, Measures, Rests}
use Rattle.wm_pen.specs.Ink.{Ink, put, ruler, ahead}
use Rattle.wm_conditions.specs.Draws.{testing}
use Rattle.wm_effects.specs.Draws.{acting_all}
use Rattle.wm_control.specs.Moves.{wording, joining, entering, turning, tying}
use Rattle.wm_control.specs.Pieces.{Piece, Many, One, drawn}
use Rattle.wm_control.proofs.PiecesJoin.{pieces_are}
use Rattle.wm_arms.specs.Moves.{pointing, asking, asking_for, asking_while, asking_last, beginning_for, opening, opening_for, for_head, opening_while, opening_do, do_head, closing_for, closing_while}
use Rattle.wm_trees.specs.Draws.{moving}
use Rattle.wm_trees.specs.Laws.{leading}
use Rattle.wm_trees.proofs.Sizes.{same_size}
use Rattle.wm_trees.proofs.ArmsDrawn.{last_behind}
use Rattle.wm_trees.proofs.TreesDrawn.{tree_ruled}

-- a body, whose size does not rest on where it leads
abbrev body_moved : Plan → Scene → Tree → Around → (stop again : ℕ) → Ink → Ink
body_moved plan within body around stop again ink =
    put (tree_size plan body within (in_loop 0 0 around)) (tree_strokes plan body within (in_loop stop again around) ink.node) ink

body_moves : (plan : Plan) (within : Scene) (body : Tree) (around : Around) (stop again : ℕ) (ink : Ink) → moving plan within (in_loop stop again around) body ink ≡ body_moved plan within body around stop again ink
unfolding moving
body_moves plan within body around stop again ink =
    ap (λ n. put n (tree_strokes plan body within (in_loop stop again around) ink.node) ink)
    (same_size plan body within stop again around.exit 0 0 around.exit [] (around.near ++ around.far))

-- ---- for

abbrev for_pieces : Plan → Scene → Around → Bool → (loop : ℕ) → List Effect → Test → List Effect → Tree → (head : ℕ) → List Piece
for_pieces plan scene around is_counted loop begin test after body head =
    let within = inside scene loop in
    let t = test_size plan within test in
    let k = ties_size plan within in
    let n = tree_size plan body within (in_loop 0 0 around) in
    let a = effects_size plan within after in
    Many (word_size is_counted) (λ node. word_strokes plan scene is_counted words.For node)
    ∷ Many (effects_size plan scene begin) (λ node. effects_strokes plan scene begin node)
    ∷ One (λ node. enter_strokes plan scene loop node)
    ∷ Many k (λ node. ties_strokes plan within loop node)
    ∷ Many t (λ node. test_strokes plan within test node (suc (node + t)) (suc (suc (suc (node + t) + k + n) + a)))
    ∷ One (λ node. point plan within 0 ∷ [])
    ∷ Many k (λ node. ties_strokes plan within loop node)
    ∷ Many n (λ node. tree_strokes plan body within (in_loop (suc (suc (node + n) + a)) (suc (node + n)) around) node)
    ∷ One (λ node. join plan within node)
    ∷ Many a (λ node. effects_strokes plan within after node)
    ∷ One (λ node. turn_strokes plan scene loop node head) ∷ []

-- up to the body, for sizes that a ruler tells
abbrev for_asked : Plan → Scene → Bool → (loop : ℕ) → List Effect → Test → (size after : ℕ) → Ink → Ink
for_asked plan scene is_counted loop begin test size after ink =
    asking_for plan (inside scene loop) loop test size after (opening_for plan scene is_counted loop begin ink)

abbrev for_moved : Plan → Scene → Around → Bool → (loop : ℕ) → List Effect → Test → List Effect → Tree → (size after : ℕ) → Ink → Ink
for_moved plan scene around is_counted loop begin test after body size later ink =
    let asked = for_asked plan scene is_counted loop begin test size later ink in
    closing_for plan scene loop after (for_head plan scene is_counted begin ink)
    (body_moved plan (inside scene loop) body around (suc (suc (asked.node + size) + later)) (suc (asked.node + size)) asked)

for_as : (plan : Plan) (scene : Scene) (around : Around) (is_counted : Bool) (loop : ℕ) (begin : List Effect) (test : Test) (after : List Effect) (body : Tree) (node : ℕ) (old : List Stroke) (mode : Mode) → for_moved plan scene around is_counted loop begin test after body (ahead (record { node = node; mode = mode; strokes = old }) (tree_size plan body (inside scene loop) (in_loop 0 0 around))) (ahead (record { node = node; mode = mode; strokes = old }) (effects_size plan (inside scene loop) after)) (record { node = node; mode = mode; strokes = old }) ≡ drawn (for_pieces plan scene around is_counted loop begin test after body (suc (node + word_size is_counted + effects_size plan scene begin))) (record { node = node; mode = mode; strokes = old })
unfolding closing_for asking_for asking pointing testing opening_for opening beginning_for for_head acting_all joining turning tying entering wording put ahead
for_as plan scene around is_counted loop begin test after body node old Draws = refl
for_as plan scene around is_counted loop begin test after body node old Measures = refl
for_as plan scene around is_counted loop begin test after body node old Rests = refl

pub for_drawn : (plan : Plan) (scene : Scene) (around : Around) (is_counted : Bool) (loop : ℕ) (begin : List Effect) (test : Test) (after : List Effect) (body : Tree) (ink : Ink) → (let within = inside scene loop in let size = (moving plan within (in_loop 0 0 around) body (ruler ink)).node in let later = ahead ink (effects_size plan within after) in let asked = for_asked plan scene is_counted loop begin test size later ink in closing_for plan scene loop after (for_head plan scene is_counted begin ink) (moving plan within (in_loop (suc (suc (asked.node + size) + later)) (suc (asked.node + size)) around) body asked)) ≡ moving plan scene around (For is_counted loop begin test after body) ink
unfolding moving tree_size tree_strokes
for_drawn plan scene around is_counted loop begin test after body ink =
    let within = inside scene loop in
    let w = word_size is_counted in
    let b = effects_size plan scene begin in
    let t = test_size plan within test in
    let k = ties_size plan within in
    let n = tree_size plan body within (in_loop 0 0 around) in
    let a = effects_size plan within after in
    let later = ahead ink a in
    let ruled = (moving plan within (in_loop 0 0 around) body (ruler ink)).node in
    let asked = for_asked plan scene is_counted loop begin test ruled later ink in
    let before = ink.node + w + b in
    let first = suc before + k in
    let hit = suc (first + t) in
    let turn = hit + k in
    let again = suc (turn + n) in
    let final = again + a in
    let e : w + (b + suc (k + (t + suc (k + (n + suc (a + 1)))))) ≡ w + b + 1 + k + t + 1 + k + n + 1 + a + 1 = omega arith in
    ap (λ (it : Ink). closing_for plan scene loop after (for_head plan scene is_counted begin ink) it) (body_moves plan within body around (suc (suc (asked.node + ruled) + later)) (suc (asked.node + ruled)) asked)
    ∙ (ap (λ size. for_moved plan scene around is_counted loop begin test after body size later ink) (tree_ruled plan within (in_loop 0 0 around) body ink)
    ∙ (for_as plan scene around is_counted loop begin test after body ink.node ink.strokes ink.mode
    ∙ pieces_are (for_pieces plan scene around is_counted loop begin test after body (suc (ink.node + w + b))) (w + b + 1 + k + t + 1 + k + n + 1 + a + 1) (tree_strokes plan (For is_counted loop begin test after body) scene around ink.node) ink e (simp append_assoc (ap (λ (xs : List Stroke). word_strokes plan scene is_counted words.For ink.node ++ (effects_strokes plan scene begin (ink.node + w) ++ (enter_strokes plan scene loop before ++ (ties_strokes plan within loop (suc before) ++ (test_strokes plan within test first hit (suc final) ++ (point plan within 0 ∷ xs)))))) (last_behind (ties_strokes plan within loop hit) (tree_strokes plan body within (in_loop (suc final) again around) turn) (join plan within (turn + n)) (effects_strokes plan within after again) (turn_strokes plan scene loop final (suc before)))))))

-- ---- while

abbrev while_pieces : Plan → Scene → Around → Bool → (loop : ℕ) → Test → Tree → (head : ℕ) → List Piece
while_pieces plan scene around is_counted loop test body head =
    let within = inside scene loop in
    let t = test_size plan within test in
    let k = ties_size plan within in
    let n = tree_size plan body within (in_loop 0 0 around) in
    One (λ node. enter_strokes plan scene loop node)
    ∷ Many k (λ node. ties_strokes plan within loop node)
    ∷ Many (word_size is_counted) (λ node. word_strokes plan within is_counted words.While node)
    ∷ Many t (λ node. test_strokes plan within test node (suc (node + t)) (suc (suc (suc (node + t) + k + n))))
    ∷ One (λ node. point plan within 0 ∷ [])
    ∷ Many k (λ node. ties_strokes plan within loop node)
    ∷ Many n (λ node. tree_strokes plan body within (in_loop (suc (suc (node + n))) (suc (node + n)) around) node)
    ∷ One (λ node. join plan within node)
    ∷ One (λ node. turn_strokes plan scene loop node head) ∷ []

abbrev while_asked : Plan → Scene → Bool → (loop : ℕ) → Test → (size : ℕ) → Ink → Ink
while_asked plan scene is_counted loop test size ink =
    asking_while plan (inside scene loop) loop test size (opening_while plan scene is_counted loop ink)

abbrev while_moved : Plan → Scene → Around → Bool → (loop : ℕ) → Test → Tree → (size : ℕ) → Ink → Ink
while_moved plan scene around is_counted loop test body size ink =
    let asked = while_asked plan scene is_counted loop test size ink in
    closing_while plan scene loop (suc ink.node)
    (body_moved plan (inside scene loop) body around (suc (suc (asked.node + size))) (suc (asked.node + size)) asked)

while_as : (plan : Plan) (scene : Scene) (around : Around) (is_counted : Bool) (loop : ℕ) (test : Test) (body : Tree) (node : ℕ) (old : List Stroke) (mode : Mode) → while_moved plan scene around is_counted loop test body (ahead (record { node = node; mode = mode; strokes = old }) (tree_size plan body (inside scene loop) (in_loop 0 0 around))) (record { node = node; mode = mode; strokes = old }) ≡ drawn (while_pieces plan scene around is_counted loop test body (suc node)) (record { node = node; mode = mode; strokes = old })
unfolding closing_while asking_while asking pointing testing opening_while opening joining turning tying entering wording put ahead
while_as plan scene around is_counted loop test body node old Draws = refl
while_as plan scene around is_counted loop test body node old Measures = refl
while_as plan scene around is_counted loop test body node old Rests = refl

pub while_drawn : (plan : Plan) (scene : Scene) (around : Around) (is_counted : Bool) (loop : ℕ) (test : Test) (body : Tree) (ink : Ink) → (let within = inside scene loop in let size = (moving plan within (in_loop 0 0 around) body (ruler ink)).node in let asked = while_asked plan scene is_counted loop test size ink in closing_while plan scene loop (suc ink.node) (moving plan within (in_loop (suc (suc (asked.node + size))) (suc (asked.node + size)) around) body asked)) ≡ moving plan scene around (While is_counted loop test body) ink
unfolding moving tree_size tree_strokes
while_drawn plan scene around is_counted loop test body ink =
    let within = inside scene loop in
    let w = word_size is_counted in
    let t = test_size plan within test in
    let k = ties_size plan within in
    let n = tree_size plan body within (in_loop 0 0 around) in
    let ruled = (moving plan within (in_loop 0 0 around) body (ruler ink)).node in
    let asked = while_asked plan scene is_counted loop test ruled ink in
    let e : suc (k + (w + (t + suc (k + (n + suc 1))))) ≡ 1 + k + w + t + 1 + k + n + 1 + 1 = omega arith in
    ap (λ (it : Ink). closing_while plan scene loop (suc ink.node) it) (body_moves plan within body around (suc (suc (asked.node + ruled))) (suc (asked.node + ruled)) asked)
    ∙ (ap (λ size. while_moved plan scene around is_counted loop test body size ink) (tree_ruled plan within (in_loop 0 0 around) body ink)
    ∙ (while_as plan scene around is_counted loop test body ink.node ink.strokes ink.mode
    ∙ pieces_are (while_pieces plan scene around is_counted loop test body (suc ink.node)) (1 + k + w + t + 1 + k + n + 1 + 1) (tree_strokes plan (While is_counted loop test body) scene around ink.node) ink e (simp append_assoc)))

-- ---- do

abbrev do_pieces : Plan → Scene → Around → Bool → Bool → (loop : ℕ) → Tree → Test → (head : ℕ) → List Piece
do_pieces plan scene around is_counted is_tail_counted loop body test head =
    let within = inside scene loop in
    let v = word_size is_tail_counted in
    let t = test_size plan within test in
    let k = ties_size plan within in
    let n = tree_size plan body within (in_loop 0 0 around) in
    Many (word_size is_counted) (λ node. word_strokes plan scene is_counted words.Do node)
    ∷ One (λ node. enter_strokes plan scene loop node)
    ∷ Many k (λ node. ties_strokes plan within loop node)
    ∷ Many n (λ node. tree_strokes plan body within (in_loop (suc (suc (suc (node + n) + v + t))) (suc (node + n)) around) node)
    ∷ One (λ node. join plan within node)
    ∷ Many v (λ node. word_strokes plan within is_tail_counted words.While node)
    ∷ Many t (λ node. test_strokes plan within test node (suc (node + t)) (suc (suc (node + t))))
    ∷ One (λ node. point plan within 0 ∷ [])
    ∷ One (λ node. turn_strokes plan scene loop node head) ∷ []

abbrev do_moved : Plan → Scene → Around → Bool → Bool → (loop : ℕ) → Tree → Test → (size tail : ℕ) → Ink → Ink
do_moved plan scene around is_counted is_tail_counted loop body test size tail ink =
    let opened = opening_do plan scene is_counted loop ink in
    asking_last plan scene is_tail_counted loop test (do_head plan scene is_counted ink)
    (body_moved plan (inside scene loop) body around (suc (suc (suc (opened.node + size) + tail))) (suc (opened.node + size)) opened)

do_as : (plan : Plan) (scene : Scene) (around : Around) (is_counted is_tail_counted : Bool) (loop : ℕ) (body : Tree) (test : Test) (node : ℕ) (old : List Stroke) (mode : Mode) → do_moved plan scene around is_counted is_tail_counted loop body test (ahead (record { node = node; mode = mode; strokes = old }) (tree_size plan body (inside scene loop) (in_loop 0 0 around))) (ahead (record { node = node; mode = mode; strokes = old }) (word_size is_tail_counted + test_size plan (inside scene loop) test)) (record { node = node; mode = mode; strokes = old }) ≡ drawn (do_pieces plan scene around is_counted is_tail_counted loop body test (suc (node + word_size is_counted))) (record { node = node; mode = mode; strokes = old })
unfolding asking_last asking pointing testing opening_do opening do_head joining turning tying entering wording put ahead
do_as plan scene around is_counted is_tail_counted loop body test node old Draws =
    let within = inside scene loop in
    let n = tree_size plan body within (in_loop 0 0 around) in
    let v = word_size is_tail_counted in
    let t = test_size plan within test in
    let turn = node + word_size is_counted + 1 + ties_size plan within in
    let e : suc (turn + n) + (v + t) ≡ suc (turn + n) + v + t = omega arith in
    ap (λ hit. drawn (
    Many (word_size is_counted) (λ node. word_strokes plan scene is_counted words.Do node)
    ∷ One (λ node. enter_strokes plan scene loop node)
    ∷ Many (ties_size plan within) (λ node. ties_strokes plan within loop node)
    ∷ Many n (λ it. tree_strokes plan body within (in_loop (suc (suc hit)) (suc (turn + n)) around) it)
    ∷ One (λ node. join plan within node)
    ∷ Many v (λ node. word_strokes plan within is_tail_counted words.While node)
    ∷ Many t (λ node. test_strokes plan within test node (suc (node + t)) (suc (suc (node + t))))
    ∷ One (λ node. point plan within 0 ∷ [])
    ∷ One (λ it. turn_strokes plan scene loop it (suc (node + word_size is_counted))) ∷ []
    ) (record { node = node; mode = Draws; strokes = old })) e
do_as plan scene around is_counted is_tail_counted loop body test node old Measures = refl
do_as plan scene around is_counted is_tail_counted loop body test node old Rests = refl

pub do_drawn : (plan : Plan) (scene : Scene) (around : Around) (is_counted is_tail_counted : Bool) (loop : ℕ) (body : Tree) (test : Test) (ink : Ink) → (let within = inside scene loop in let size = (moving plan within (in_loop 0 0 around) body (ruler ink)).node in let tail = ahead ink (word_size is_tail_counted + test_size plan within test) in let opened = opening_do plan scene is_counted loop ink in asking_last plan scene is_tail_counted loop test (do_head plan scene is_counted ink) (moving plan within (in_loop (suc (suc (suc (opened.node + size) + tail))) (suc (opened.node + size)) around) body opened)) ≡ moving plan scene around (Do is_counted is_tail_counted loop body test) ink
unfolding moving tree_size tree_strokes
do_drawn plan scene around is_counted is_tail_counted loop body test ink =
    let within = inside scene loop in
    let w = word_size is_counted in
    let v = word_size is_tail_counted in
    let t = test_size plan within test in
    let k = ties_size plan within in
    let n = tree_size plan body within (in_loop 0 0 around) in
    let tail = ahead ink (v + t) in
    let ruled = (moving plan within (in_loop 0 0 around) body (ruler ink)).node in
    let opened = opening_do plan scene is_counted loop ink in
    let e : w + suc (k + (n + suc (v + (t + suc 1)))) ≡ w + 1 + k + n + 1 + v + t + 1 + 1 = omega arith in
    ap (λ (it : Ink). asking_last plan scene is_tail_counted loop test (do_head plan scene is_counted ink) it) (body_moves plan within body around (suc (suc (suc (opened.node + ruled) + tail))) (suc (opened.node + ruled)) opened)
    ∙ (ap (λ size. do_moved plan scene around is_counted is_tail_counted loop body test size tail ink) (tree_ruled plan within (in_loop 0 0 around) body ink)
    ∙ (do_as plan scene around is_counted is_tail_counted loop body test ink.node ink.strokes ink.mode
    ∙ pieces_are (do_pieces plan scene around is_counted is_tail_counted loop body test (suc (ink.node + w))) (w + 1 + k + n + 1 + v + t + 1 + 1) (tree_strokes plan (Do is_counted is_tail_counted loop body test) scene around ink.node) ink e (simp append_assoc)))

-- ---- with what was told of each number

pub for_is : (plan : Plan) (scene within : Scene) (around : Around) (is_counted : Bool) (loop : ℕ) (begin : List Effect) (test : Test) (after : List Effect) (body : Tree) (far : List ℕ) (size later head node again stop : ℕ) (ink ruled opened asked moved new : Ink) → within ≡ inside scene loop → far ≡ around.near ++ around.far → ruled ≡ moving plan within (leading 0 0 around.exit [] far) body (ruler ink) → size ≡ ruled.node → later ≡ ahead ink (effects_size plan within after) → head ≡ for_head plan scene is_counted begin ink → opened ≡ opening_for plan scene is_counted loop begin ink → asked ≡ asking_for plan within loop test size later opened → node ≡ asked.node → again ≡ suc (node + size) → stop ≡ suc (again + later) → moved ≡ moving plan within (leading stop again around.exit [] far) body asked → new ≡ closing_for plan scene loop after head moved → new ≡ moving plan scene around (For is_counted loop begin test after body) ink
for_is plan scene within around is_counted loop begin test after body far size later head node again stop ink ruled opened asked moved new h1 h2 h3 h4 h5 h6 h7 h8 h9 h10 h11 h12 h13 =
    let e = for_drawn plan scene around is_counted loop begin test after body ink in
    cc

pub while_is : (plan : Plan) (scene within : Scene) (around : Around) (is_counted : Bool) (loop : ℕ) (test : Test) (body : Tree) (far : List ℕ) (size first head node again stop : ℕ) (ink ruled opened asked moved new : Ink) → within ≡ inside scene loop → far ≡ around.near ++ around.far → ruled ≡ moving plan within (leading 0 0 around.exit [] far) body (ruler ink) → size ≡ ruled.node → first ≡ ink.node → head ≡ suc first → opened ≡ opening_while plan scene is_counted loop ink → asked ≡ asking_while plan within loop test size opened → node ≡ asked.node → again ≡ suc (node + size) → stop ≡ suc again → moved ≡ moving plan within (leading stop again around.exit [] far) body asked → new ≡ closing_while plan scene loop head moved → new ≡ moving plan scene around (While is_counted loop test body) ink
while_is plan scene within around is_counted loop test body far size first head node again stop ink ruled opened asked moved new h1 h2 h3 h4 h5 h6 h7 h8 h9 h10 h11 h12 h13 =
    let e = while_drawn plan scene around is_counted loop test body ink in
    cc

pub do_is : (plan : Plan) (scene within : Scene) (around : Around) (is_counted is_tail_counted : Bool) (loop : ℕ) (body : Tree) (test : Test) (far : List ℕ) (size tail head node again hit stop : ℕ) (ink ruled opened moved new : Ink) → within ≡ inside scene loop → far ≡ around.near ++ around.far → ruled ≡ moving plan within (leading 0 0 around.exit [] far) body (ruler ink) → size ≡ ruled.node → tail ≡ ahead ink (word_size is_tail_counted + test_size plan within test) → head ≡ do_head plan scene is_counted ink → opened ≡ opening_do plan scene is_counted loop ink → node ≡ opened.node → again ≡ suc (node + size) → hit ≡ suc (again + tail) → stop ≡ suc hit → moved ≡ moving plan within (leading stop again around.exit [] far) body opened → new ≡ asking_last plan scene is_tail_counted loop test head moved → new ≡ moving plan scene around (Do is_counted is_tail_counted loop body test) ink
do_is plan scene within around is_counted is_tail_counted loop body test far size tail head node again hit stop ink ruled opened moved new h1 h2 h3 h4 h5 h6 h7 h8 h9 h10 h11 h12 h13 =
    let e = do_drawn plan scene around is_counted is_tail_counted loop body test ink in
    cc
