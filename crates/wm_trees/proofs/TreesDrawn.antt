-- Statements one after another, blocks, and statements of one piece.
use Rattle.std.proofs.Common.{◌≡◌, ℕ, suc, ◌+◌, ◌≤◌, length, drop, Bool, true, List, [], ◌∷◌, ◌++◌, map, Option, refl, ap, sym, ◌∙◌, arith}
use Rattle.std.proofs.lemmas.List.{at_drop_all}
use Rattle.wm_ops.specs.declared.words.ControlWord.TheVariants as words
use Rattle.wm_program.specs.declared.tree.Statement.{Statement}
use Rattle.wm_program.specs.Tree.{Expression, Effect, Fresh, Tree, Skip, Seq, Block, Empty, Declare, Act, Break, Continue, Return, Leave}
use Rattle.wm_program.specs.Trees.{tree_of}
use Rattle.wm_program.specs.UsedParts.{tree_all}
use Rattle.wm_flow.specs.declared.scene.Scene.{Scene}
use Rattle.wm_flow.specs.Places.{Plan}
use Rattle.wm_flow.specs.Statements.{Around, in_block, made_in, clear_size, clear_strokes, jump, tree_size, tree_strokes, return_size, return_strokes}
use Rattle.wm_pen.specs.Ink.{Ink, put, ruler, ahead, is_rest}
use Rattle.wm_pen.proofs.Joins.{put_none, put_after, ruled, rested}
use Rattle.wm_effects.specs.Draws.{acting, declaring}
use Rattle.wm_control.specs.Moves.{clearing, jumping, jumping_out}
use Rattle.wm_arms.specs.Moves.{returning, leaving}
use Rattle.wm_trees.specs.Draws.{moving}

pub skip_drawn : (plan : Plan) (scene : Scene) (around : Around) (ink : Ink) → moving plan scene around Skip ink ≡ ink
unfolding moving tree_size tree_strokes
skip_drawn plan scene around ink = put_none ink

pub seq_drawn : (plan : Plan) (scene : Scene) (around : Around) (first rest : Tree) (ink : Ink) → moving plan scene around rest (moving plan scene around first ink) ≡ moving plan scene around (Seq first rest) ink
unfolding moving tree_size tree_strokes
seq_drawn plan scene around first rest ink =
    put_after (tree_size plan first scene around) (tree_size plan rest scene around) (tree_strokes plan first scene around ink.node) (λ node. tree_strokes plan rest scene around node) ink

-- a turn of a loop over statements, and its end
pub turn_drawn : (plan : Plan) (scene : Scene) (around : Around) (list : List Statement) (i : ℕ) (it : Statement) (ink drawn whole : Ink) → drop i list ≡ it ∷ drop (i + 1) list → drawn ≡ moving plan scene around (tree_of it) ink → moving plan scene around (tree_all (drop i list)) ink ≡ whole → moving plan scene around (tree_all (drop (i + 1) list)) drawn ≡ whole
turn_drawn plan scene around list i it ink drawn whole next moves left =
    ap (λ (k : Ink). moving plan scene around (tree_all (drop (i + 1) list)) k) moves
    ∙ (seq_drawn plan scene around (tree_of it) (tree_all (drop (i + 1) list)) ink
    ∙ (sym (ap (λ (xs : List Statement). moving plan scene around (tree_all xs) ink) next) ∙ left))

pub end_drawn : (plan : Plan) (scene : Scene) (around : Around) (list : List Statement) (i : ℕ) (ink whole : Ink) → length list ≤ i → moving plan scene around (tree_all (drop i list)) ink ≡ whole → ink ≡ whole
end_drawn plan scene around list i ink whole past left =
    sym (skip_drawn plan scene around ink)
    ∙ (sym (at_drop_all (λ (xs : List Statement). moving plan scene around (tree_all xs) ink) list i past) ∙ left)

pub block_drawn : (plan : Plan) (scene : Scene) (around : Around) (tree : Tree) (ink : Ink) → clearing plan scene (made_in tree) 0 (moving plan scene (in_block (made_in tree) around) tree ink) ≡ moving plan scene around (Block tree) ink
unfolding moving clearing tree_size tree_strokes
block_drawn plan scene around tree ink =
    put_after (tree_size plan tree scene (in_block (made_in tree) around)) (clear_size plan scene (made_in tree)) (tree_strokes plan tree scene (in_block (made_in tree) around) ink.node) (λ node. clear_strokes plan scene (made_in tree) node 0) ink

pub empty_drawn : (plan : Plan) (scene : Scene) (around : Around) (ink : Ink) → moving plan scene around Empty ink ≡ ink
unfolding moving tree_size tree_strokes
empty_drawn plan scene around ink = put_none ink

pub declare_drawn : (plan : Plan) (scene : Scene) (around : Around) (fresh : List Fresh) (ink : Ink) → declaring plan scene fresh ink ≡ moving plan scene around (Declare fresh) ink
unfolding moving declaring tree_size tree_strokes
declare_drawn plan scene around fresh ink = refl

pub act_drawn : (plan : Plan) (scene : Scene) (around : Around) (effect : Effect) (ink : Ink) → acting plan scene effect ink ≡ moving plan scene around (Act effect) ink
unfolding moving acting tree_size tree_strokes
act_drawn plan scene around effect ink = refl

pub break_drawn : (plan : Plan) (scene : Scene) (around : Around) (is_counted : Bool) (ink : Ink) → jumping_out plan scene is_counted words.Break around.near around.stop ink ≡ moving plan scene around (Break is_counted) ink
unfolding moving jumping_out tree_size tree_strokes
break_drawn plan scene around is_counted ink = refl

pub continue_drawn : (plan : Plan) (scene : Scene) (around : Around) (is_counted : Bool) (ink : Ink) → jumping_out plan scene is_counted words.Continue around.near around.again ink ≡ moving plan scene around (Continue is_counted) ink
unfolding moving jumping_out tree_size tree_strokes
continue_drawn plan scene around is_counted ink = refl

pub return_drawn : (plan : Plan) (scene : Scene) (around : Around) (x : Expression) (narrowing : Option ℕ) (ink : Ink) → returning plan scene around x narrowing ink ≡ moving plan scene around (Return x narrowing) ink
unfolding moving returning tree_size tree_strokes
return_drawn plan scene around x narrowing ink = refl

pub leave_drawn : (plan : Plan) (scene : Scene) (around : Around) (ink : Ink) → leaving plan scene around ink ≡ moving plan scene around Leave ink
unfolding moving leaving jumping clearing tree_size tree_strokes
leave_drawn plan scene around ink =
    put_after (clear_size plan scene (around.near ++ around.far)) 1 (clear_strokes plan scene (around.near ++ around.far) ink.node 0) (λ node. jump plan scene node around.exit) ink

-- what a ruler tells of a statement, and a pen that rests
pub tree_ruled : (plan : Plan) (scene : Scene) (around : Around) (tree : Tree) (ink : Ink) → (moving plan scene around tree (ruler ink)).node ≡ ahead ink (tree_size plan tree scene around)
unfolding moving
tree_ruled plan scene around tree ink = ruled (tree_size plan tree scene around) (tree_strokes plan tree scene around (ruler ink).node) ink

pub tree_rested : (plan : Plan) (scene : Scene) (around : Around) (tree : Tree) (ink : Ink) → is_rest ink.mode ≡ true → moving plan scene around tree ink ≡ ink
unfolding moving
tree_rested plan scene around tree ink h = rested (tree_size plan tree scene around) (tree_strokes plan tree scene around ink.node) ink h
