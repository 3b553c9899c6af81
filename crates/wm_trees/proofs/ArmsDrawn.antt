-- Ifs.
use Rattle.std.proofs.Common.{◌≡◌, ℕ, suc, ◌+◌, Bool, List, [], ◌∷◌, ◌++◌, refl, ap, sym, ◌∙◌, append_assoc, arith}
use Rattle.wm_ops.specs.declared.words.ControlWord.TheVariants as words
use Rattle.wm_program.specs.Tree.{Test, Tree, If, IfElse}
use Rattle.wm_flow.specs.declared.scene.Scene.{Scene}
use Rattle.wm_flow.specs.Places.{Plan}
use Rattle.wm_flow.specs.Strokes.{Stroke, point}
use Rattle.wm_flow.specs.Tests.{test_size, test_strokes}
use Rattle.wm_flow.specs.Statements.{Around, word_size, word_strokes, jump, join, tree_size, tree_strokes}
use Rattle.wm_pen.specs.declared.pen.Mode.{Mode}
use Rattle.wm_pen.specs.declared.pen.Mode.TheVariants.{Draws, Measures, Rests}
use Rattle.wm_pen.specs.Ink.{Ink, put, ruler, ahead}
use Rattle.wm_conditions.specs.Draws.{testing}
use Rattle.wm_control.specs.Moves.{wording, jumping, joining}
use Rattle.wm_control.specs.Pieces.{Piece, Many, One, drawn}
use Rattle.wm_control.proofs.PiecesJoin.{pieces_are}
use Rattle.wm_arms.specs.Moves.{pointing, asking, choosing, otherwise_moving}
use Rattle.wm_trees.specs.Draws.{moving}
use Rattle.wm_trees.proofs.TreesDrawn.{tree_ruled}

abbrev if_pieces : Plan → Scene → Around → Bool → Test → Tree → List Piece
if_pieces plan scene around is_counted test first =
    Many (word_size is_counted) (λ node. word_strokes plan scene is_counted words.If node)
    ∷ Many (test_size plan scene test) (λ node. test_strokes plan scene test node (suc (node + test_size plan scene test)) (suc (suc (node + test_size plan scene test) + tree_size plan first scene around)))
    ∷ One (λ node. point plan scene 0 ∷ [])
    ∷ Many (tree_size plan first scene around) (λ node. tree_strokes plan first scene around node)
    ∷ One (λ node. join plan scene node) ∷ []

if_as : (plan : Plan) (scene : Scene) (around : Around) (is_counted : Bool) (test : Test) (first : Tree) (node : ℕ) (old : List Stroke) (mode : Mode) → joining plan scene 0 (moving plan scene around first (choosing plan scene is_counted test (ahead (record { node = node; mode = mode; strokes = old }) (tree_size plan first scene around)) (record { node = node; mode = mode; strokes = old }))) ≡ drawn (if_pieces plan scene around is_counted test first) (record { node = node; mode = mode; strokes = old })
unfolding joining moving choosing asking pointing testing wording put ahead
if_as plan scene around is_counted test first node old Draws = refl
if_as plan scene around is_counted test first node old Measures = refl
if_as plan scene around is_counted test first node old Rests = refl

pub if_drawn : (plan : Plan) (scene : Scene) (around : Around) (is_counted : Bool) (test : Test) (first : Tree) (ink : Ink) → joining plan scene 0 (moving plan scene around first (choosing plan scene is_counted test (moving plan scene around first (ruler ink)).node ink)) ≡ moving plan scene around (If is_counted test first) ink
unfolding moving tree_size tree_strokes
if_drawn plan scene around is_counted test first ink =
    let w = word_size is_counted in
    let t = test_size plan scene test in
    let n = tree_size plan first scene around in
    let e : w + (t + suc (n + 1)) ≡ w + t + 1 + n + 1 = omega arith in
    ap (λ size. joining plan scene 0 (moving plan scene around first (choosing plan scene is_counted test size ink))) (tree_ruled plan scene around first ink)
    ∙ (if_as plan scene around is_counted test first ink.node ink.strokes ink.mode
    ∙ pieces_are (if_pieces plan scene around is_counted test first) (w + t + 1 + n + 1) (tree_strokes plan (If is_counted test first) scene around ink.node) ink e (simp append_assoc))

abbrev else_pieces : Plan → Scene → Around → Bool → Test → Tree → Bool → Tree → List Piece
else_pieces plan scene around is_counted test first is_else_counted other =
    Many (word_size is_counted) (λ node. word_strokes plan scene is_counted words.If node)
    ∷ Many (test_size plan scene test) (λ node. test_strokes plan scene test node (suc (node + test_size plan scene test)) (suc (suc (node + test_size plan scene test) + tree_size plan first scene around)))
    ∷ One (λ node. point plan scene 0 ∷ [])
    ∷ Many (tree_size plan first scene around) (λ node. tree_strokes plan first scene around node)
    ∷ One (λ node. jump plan scene node (suc (suc node + word_size is_else_counted + tree_size plan other scene around)))
    ∷ Many (word_size is_else_counted) (λ node. word_strokes plan scene is_else_counted words.Else node)
    ∷ Many (tree_size plan other scene around) (λ node. tree_strokes plan other scene around node)
    ∷ One (λ node. join plan scene node) ∷ []

else_as : (plan : Plan) (scene : Scene) (around : Around) (is_counted : Bool) (test : Test) (first : Tree) (is_else_counted : Bool) (other : Tree) (node : ℕ) (old : List Stroke) (mode : Mode) → joining plan scene 0 (moving plan scene around other (otherwise_moving plan scene is_else_counted (ahead (moving plan scene around first (choosing plan scene is_counted test (ahead (record { node = node; mode = mode; strokes = old }) (tree_size plan first scene around)) (record { node = node; mode = mode; strokes = old }))) (tree_size plan other scene around)) (moving plan scene around first (choosing plan scene is_counted test (ahead (record { node = node; mode = mode; strokes = old }) (tree_size plan first scene around)) (record { node = node; mode = mode; strokes = old }))))) ≡ drawn (else_pieces plan scene around is_counted test first is_else_counted other) (record { node = node; mode = mode; strokes = old })
unfolding joining moving otherwise_moving jumping choosing asking pointing testing wording put ahead
else_as plan scene around is_counted test first is_else_counted other node old Draws = refl
else_as plan scene around is_counted test first is_else_counted other node old Measures = refl
else_as plan scene around is_counted test first is_else_counted other node old Rests = refl

-- the last of five behind the others
pub last_behind : (f j v o k : List Stroke) → f ++ (j ++ (v ++ (o ++ k))) ≡ (f ++ (j ++ (v ++ o))) ++ k
last_behind f j v o k =
    sym (append_assoc f (j ++ (v ++ o)) k
    ∙ ap (λ (xs : List Stroke). f ++ xs) (append_assoc j (v ++ o) k ∙ ap (λ (xs : List Stroke). j ++ xs) (append_assoc v o k)))

pub else_drawn : (plan : Plan) (scene : Scene) (around : Around) (is_counted : Bool) (test : Test) (first : Tree) (is_else_counted : Bool) (other : Tree) (ink : Ink) → joining plan scene 0 (moving plan scene around other (otherwise_moving plan scene is_else_counted (moving plan scene around other (ruler (moving plan scene around first (choosing plan scene is_counted test (moving plan scene around first (ruler ink)).node ink)))).node (moving plan scene around first (choosing plan scene is_counted test (moving plan scene around first (ruler ink)).node ink)))) ≡ moving plan scene around (IfElse is_counted test first is_else_counted other) ink
unfolding moving tree_size tree_strokes
else_drawn plan scene around is_counted test first is_else_counted other ink =
    let w = word_size is_counted in
    let t = test_size plan scene test in
    let n = tree_size plan first scene around in
    let v = word_size is_else_counted in
    let m = tree_size plan other scene around in
    let asked = ink.node + w in
    let hit = suc (asked + t) in
    let last = suc (hit + n) + v + m in
    let e : w + (t + suc (n + suc (v + (m + 1)))) ≡ w + t + 1 + n + 1 + v + m + 1 = omega arith in
    ap (λ size. joining plan scene 0 (moving plan scene around other (otherwise_moving plan scene is_else_counted (moving plan scene around other (ruler (moving plan scene around first (choosing plan scene is_counted test size ink)))).node (moving plan scene around first (choosing plan scene is_counted test size ink))))) (tree_ruled plan scene around first ink)
    ∙ (ap (λ size. joining plan scene 0 (moving plan scene around other (otherwise_moving plan scene is_else_counted size (moving plan scene around first (choosing plan scene is_counted test (ahead ink n) ink))))) (tree_ruled plan scene around other (moving plan scene around first (choosing plan scene is_counted test (ahead ink n) ink)))
    ∙ (else_as plan scene around is_counted test first is_else_counted other ink.node ink.strokes ink.mode
    ∙ pieces_are (else_pieces plan scene around is_counted test first is_else_counted other) (w + t + 1 + n + 1 + v + m + 1) (tree_strokes plan (IfElse is_counted test first is_else_counted other) scene around ink.node) ink e (simp append_assoc (ap (λ (xs : List Stroke). word_strokes plan scene is_counted words.If ink.node ++ (test_strokes plan scene test asked hit (suc (hit + n)) ++ (point plan scene 0 ∷ xs))) (last_behind (tree_strokes plan first scene around hit) (jump plan scene (hit + n) (suc (last))) (word_strokes plan scene is_else_counted words.Else (suc (hit + n))) (tree_strokes plan other scene around (suc (hit + n) + v)) (join plan scene last))))))

-- with what was told of each number
pub if_is : (plan : Plan) (scene : Scene) (around : Around) (is_counted : Bool) (test : Test) (first : Tree) (size : ℕ) (ink ruled chosen moved new : Ink) → ruled ≡ moving plan scene around first (ruler ink) → size ≡ ruled.node → chosen ≡ choosing plan scene is_counted test size ink → moved ≡ moving plan scene around first chosen → new ≡ joining plan scene 0 moved → new ≡ moving plan scene around (If is_counted test first) ink
if_is plan scene around is_counted test first size ink ruled chosen moved new h1 h2 h3 h4 h5 =
    let e1 : size ≡ (moving plan scene around first (ruler ink)).node = h2 ∙ ap (λ (it : Ink). it.node) h1 in
    let e2 : chosen ≡ choosing plan scene is_counted test (moving plan scene around first (ruler ink)).node ink = h3 ∙ ap (λ n. choosing plan scene is_counted test n ink) e1 in
    let e3 : moved ≡ moving plan scene around first (choosing plan scene is_counted test (moving plan scene around first (ruler ink)).node ink) = h4 ∙ ap (λ (it : Ink). moving plan scene around first it) e2 in
    h5 ∙ (ap (λ (it : Ink). joining plan scene 0 it) e3 ∙ if_drawn plan scene around is_counted test first ink)

pub else_is : (plan : Plan) (scene : Scene) (around : Around) (is_counted : Bool) (test : Test) (first : Tree) (is_else_counted : Bool) (other : Tree) (size more : ℕ) (ink ruled chosen first_moved other_ruled turned other_moved new : Ink) → ruled ≡ moving plan scene around first (ruler ink) → size ≡ ruled.node → chosen ≡ choosing plan scene is_counted test size ink → first_moved ≡ moving plan scene around first chosen → other_ruled ≡ moving plan scene around other (ruler first_moved) → more ≡ other_ruled.node → turned ≡ otherwise_moving plan scene is_else_counted more first_moved → other_moved ≡ moving plan scene around other turned → new ≡ joining plan scene 0 other_moved → new ≡ moving plan scene around (IfElse is_counted test first is_else_counted other) ink
else_is plan scene around is_counted test first is_else_counted other size more ink ruled chosen first_moved other_ruled turned other_moved new h1 h2 h3 h4 h5 h6 h7 h8 h9 =
    let n = (moving plan scene around first (ruler ink)).node in
    let it1 = moving plan scene around first (choosing plan scene is_counted test n ink) in
    let e1 : size ≡ n = h2 ∙ ap (λ (it : Ink). it.node) h1 in
    let e2 : chosen ≡ choosing plan scene is_counted test n ink = h3 ∙ ap (λ k. choosing plan scene is_counted test k ink) e1 in
    let e3 : first_moved ≡ it1 = h4 ∙ ap (λ (it : Ink). moving plan scene around first it) e2 in
    let e4 : more ≡ (moving plan scene around other (ruler it1)).node = h6 ∙ (ap (λ (it : Ink). it.node) h5 ∙ ap (λ (it : Ink). (moving plan scene around other (ruler it)).node) e3) in
    let e5 : turned ≡ otherwise_moving plan scene is_else_counted (moving plan scene around other (ruler it1)).node it1 = h7 ∙ (ap (λ k. otherwise_moving plan scene is_else_counted k first_moved) e4 ∙ ap (λ (it : Ink). otherwise_moving plan scene is_else_counted (moving plan scene around other (ruler it1)).node it) e3) in
    h9 ∙ (ap (λ (it : Ink). joining plan scene 0 it) (h8 ∙ ap (λ (it : Ink). moving plan scene around other it) e5) ∙ else_drawn plan scene around is_counted test first is_else_counted other ink)
