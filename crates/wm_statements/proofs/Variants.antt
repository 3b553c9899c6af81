-- What is drawn of each variant of a declared statement, by the pieces in which it is drawn.
use Rattle.std.proofs.Common.{◌≡◌, ℕ, Bool, true, List, [], ◌∷◌, ◌++◌, map, Option, Some, None, refl, sym, ap, ◌∙◌}
use Rattle.std.specs.Option.{option_map_or}
use Rattle.wm_ops.specs.declared.words.ControlWord.TheVariants as words
use Rattle.wm_program.specs.declared.tree.Converted.{Converted}
use Rattle.wm_program.specs.declared.tree.Expr.{Expr}
use Rattle.wm_program.specs.declared.tree.Condition.{Condition}
use Rattle.wm_program.specs.declared.tree.Simple as simple_type
use Rattle.wm_program.specs.declared.tree.Declared.{Declared}
use Rattle.wm_program.specs.declared.tree.Otherwise.{Otherwise}
use Rattle.wm_program.specs.declared.tree.Statement.{Statement}
use Rattle.wm_program.specs.declared.tree.Statement.TheVariants as statement
use Rattle.wm_program.specs.Tree.{Test, Tree, Always, Block, Empty, Declare, Act, If, IfElse, For, While, Do, Break, Continue, Return, Leave}
use Rattle.wm_program.specs.Trees.{expression_of, test_of, effect_of, fresh_of, tree_of, all_of}
use Rattle.wm_program.specs.UsedParts.{tree_all}
use Rattle.wm_flow.specs.declared.scene.Scene.{Scene}
use Rattle.wm_flow.specs.Places.{Plan}
use Rattle.wm_flow.specs.Statements.{Around, made_in, in_block}
use Rattle.wm_pen.specs.Ink.{Ink, is_rest}
use Rattle.wm_effects.specs.Draws.{acting, declaring}
use Rattle.wm_control.specs.Moves.{clearing, joining, jumping_out}
use Rattle.wm_arms.specs.Moves.{returning, leaving}
use Rattle.wm_trees.specs.Draws.{moving}
use Rattle.wm_trees.proofs.TreesDrawn.{skip_drawn, seq_drawn, block_drawn, empty_drawn, declare_drawn, act_drawn, break_drawn, continue_drawn, return_drawn, leave_drawn, tree_rested}
use Rattle.wm_trees.proofs.ArmsDrawn.{if_drawn, else_drawn}
use Rattle.wm_statements.specs.Moves.{within_block, first_moving, other_moving, moving_all}
use Rattle.wm_statements.proofs.Levels.{of_block, of_empty, of_declare, of_simple, of_if, of_if_else, of_for, of_while, of_do, of_break, of_continue, of_return}

-- a pen that rests stays where it is
pub on_rest : (plan : Plan) (scene : Scene) (around : Around) (tree : Tree) (ink : Ink) → is_rest ink.mode ≡ true → moving plan scene around tree ink ≡ ink
on_rest plan scene around tree ink h = tree_rested plan scene around tree ink h

-- statements one after another are one statement
pub all_moved : (plan : Plan) (scene : Scene) (around : Around) (trees : List Tree) (ink : Ink) → moving_all plan scene around trees ink ≡ moving plan scene around (all_of trees) ink
all_moved plan scene around [] ink = sym (skip_drawn plan scene around ink)
all_moved plan scene around (tree ∷ rest) ink =
    all_moved plan scene around rest (moving plan scene around tree ink) ∙ seq_drawn plan scene around tree (all_of rest) ink

-- a block, whose scalars are left behind its statements
block_moved : (plan : Plan) (scene : Scene) (around : Around) (list : List Statement) (ink : Ink) → clearing plan scene (made_in (tree_all list)) 0 (moving_all plan scene (in_block (made_in (tree_all list)) around) (map tree_of list) ink) ≡ moving plan scene around (Block (tree_all list)) ink
block_moved plan scene around list ink =
    ap (λ (it : Ink). clearing plan scene (made_in (tree_all list)) 0 it) (all_moved plan scene (in_block (made_in (tree_all list)) around) (map tree_of list) ink)
    ∙ block_drawn plan scene around (tree_all list) ink

-- with what was told of the scalars of the block
pub block_is : (plan : Plan) (scene : Scene) (around inner : Around) (list : List Statement) (made near : List ℕ) (ink drawn new : Ink) → made ≡ made_in (tree_all list) → near ≡ made ++ around.near → inner ≡ within_block near around → drawn ≡ moving_all plan scene inner (map tree_of list) ink → new ≡ clearing plan scene made 0 drawn → new ≡ moving plan scene around (Block (tree_all list)) ink
block_is plan scene around inner list made near ink drawn new h1 h2 h3 h4 h5 =
    let e1 : inner ≡ in_block (made_in (tree_all list)) around = h3 ∙ ap (λ n. within_block n around) (h2 ∙ ap (λ m. m ++ around.near) h1) in
    let e2 : drawn ≡ moving_all plan scene (in_block (made_in (tree_all list)) around) (map tree_of list) ink = h4 ∙ ap (λ (it : Around). moving_all plan scene it (map tree_of list) ink) e1 in
    h5 ∙ (ap (λ m. clearing plan scene m 0 drawn) h1
    ∙ (ap (λ (it : Ink). clearing plan scene (made_in (tree_all list)) 0 it) e2 ∙ block_moved plan scene around list ink))

pub on_block : (plan : Plan) (scene : Scene) (around : Around) (list : List Statement) (ink : Ink) → moving plan scene around (tree_of (statement.Block list)) ink ≡ moving plan scene around (Block (tree_all list)) ink
on_block plan scene around list ink = ap (λ it. moving plan scene around it ink) (of_block list)

pub on_empty : (plan : Plan) (scene : Scene) (around : Around) (ink : Ink) → moving plan scene around (tree_of statement.Empty) ink ≡ ink
on_empty plan scene around ink = ap (λ it. moving plan scene around it ink) of_empty ∙ empty_drawn plan scene around ink

pub on_declare : (plan : Plan) (scene : Scene) (around : Around) (list : List Declared) (ink : Ink) → moving plan scene around (tree_of (statement.Declare list)) ink ≡ declaring plan scene (map fresh_of list) ink
on_declare plan scene around list ink =
    ap (λ it. moving plan scene around it ink) (of_declare list) ∙ sym (declare_drawn plan scene around (map fresh_of list) ink)

pub on_simple : (plan : Plan) (scene : Scene) (around : Around) (x : simple_type.Simple) (ink : Ink) → moving plan scene around (tree_of (statement.Simple x)) ink ≡ acting plan scene (effect_of x) ink
on_simple plan scene around x ink =
    ap (λ it. moving plan scene around it ink) (of_simple x) ∙ sym (act_drawn plan scene around (effect_of x) ink)

if_parts : (plan : Plan) (scene : Scene) (around : Around) (is_counted : Bool) (test : Test) (first : Tree) (ink : Ink) → joining plan scene 0 (first_moving plan scene around is_counted test first ink) ≡ moving plan scene around (If is_counted test first) ink
unfolding first_moving
if_parts plan scene around is_counted test first ink = if_drawn plan scene around is_counted test first ink

pub on_if : (plan : Plan) (scene : Scene) (around : Around) (is_counted : Bool) (c : Condition) (first : Statement) (ink : Ink) → moving plan scene around (tree_of (statement.If is_counted c first None)) ink ≡ joining plan scene 0 (first_moving plan scene around is_counted (test_of c) (tree_of first) ink)
on_if plan scene around is_counted c first ink =
    ap (λ it. moving plan scene around it ink) (of_if is_counted c first)
    ∙ sym (if_parts plan scene around is_counted (test_of c) (tree_of first) ink)

else_parts : (plan : Plan) (scene : Scene) (around : Around) (is_counted : Bool) (test : Test) (first : Tree) (is_else_counted : Bool) (other : Tree) (ink : Ink) → other_moving plan scene around is_else_counted other (first_moving plan scene around is_counted test first ink) ≡ moving plan scene around (IfElse is_counted test first is_else_counted other) ink
unfolding first_moving other_moving
else_parts plan scene around is_counted test first is_else_counted other ink = else_drawn plan scene around is_counted test first is_else_counted other ink

pub on_if_else : (plan : Plan) (scene : Scene) (around : Around) (is_counted : Bool) (c : Condition) (first : Statement) (other : Otherwise Statement) (ink : Ink) → moving plan scene around (tree_of (statement.If is_counted c first (Some other))) ink ≡ other_moving plan scene around other.is_counted (tree_of other.body) (first_moving plan scene around is_counted (test_of c) (tree_of first) ink)
on_if_else plan scene around is_counted c first other ink =
    ap (λ it. moving plan scene around it ink) (of_if_else is_counted c first other)
    ∙ sym (else_parts plan scene around is_counted (test_of c) (tree_of first) other.is_counted (tree_of other.body) ink)

pub on_for : (plan : Plan) (scene : Scene) (around : Around) (is_counted : Bool) (number : ℕ) (begin : List simple_type.Simple) (c : Option Condition) (step : List simple_type.Simple) (body : Statement) (ink : Ink) → moving plan scene around (tree_of (statement.For is_counted number begin c step body)) ink ≡ moving plan scene around (For is_counted number (map effect_of begin) (option_map_or test_of c Always) (map effect_of step) (tree_of body)) ink
on_for plan scene around is_counted number begin c step body ink =
    ap (λ it. moving plan scene around it ink) (of_for is_counted number begin c step body)

pub on_while : (plan : Plan) (scene : Scene) (around : Around) (is_counted : Bool) (number : ℕ) (c : Condition) (body : Statement) (ink : Ink) → moving plan scene around (tree_of (statement.While is_counted number c body)) ink ≡ moving plan scene around (While is_counted number (test_of c) (tree_of body)) ink
on_while plan scene around is_counted number c body ink =
    ap (λ it. moving plan scene around it ink) (of_while is_counted number c body)

pub on_do : (plan : Plan) (scene : Scene) (around : Around) (is_counted is_tail_counted : Bool) (number : ℕ) (body : Statement) (c : Condition) (ink : Ink) → moving plan scene around (tree_of (statement.Do is_counted is_tail_counted number body c)) ink ≡ moving plan scene around (Do is_counted is_tail_counted number (tree_of body) (test_of c)) ink
on_do plan scene around is_counted is_tail_counted number body c ink =
    ap (λ it. moving plan scene around it ink) (of_do is_counted is_tail_counted number body c)

pub on_break : (plan : Plan) (scene : Scene) (around : Around) (is_counted : Bool) (ink : Ink) → moving plan scene around (tree_of (statement.Break is_counted)) ink ≡ jumping_out plan scene is_counted words.Break around.near around.stop ink
on_break plan scene around is_counted ink =
    ap (λ it. moving plan scene around it ink) (of_break is_counted) ∙ sym (break_drawn plan scene around is_counted ink)

pub on_continue : (plan : Plan) (scene : Scene) (around : Around) (is_counted : Bool) (ink : Ink) → moving plan scene around (tree_of (statement.Continue is_counted)) ink ≡ jumping_out plan scene is_counted words.Continue around.near around.again ink
on_continue plan scene around is_counted ink =
    ap (λ it. moving plan scene around it ink) (of_continue is_counted) ∙ sym (continue_drawn plan scene around is_counted ink)

pub on_return : (plan : Plan) (scene : Scene) (around : Around) (x : Converted Expr) (ink : Ink) → moving plan scene around (tree_of (statement.Return (Some x))) ink ≡ returning plan scene around (expression_of x.value) x.narrowing ink
on_return plan scene around x ink =
    ap (λ it. moving plan scene around it ink) (of_return (Some x)) ∙ sym (return_drawn plan scene around (expression_of x.value) x.narrowing ink)

pub on_leave : (plan : Plan) (scene : Scene) (around : Around) (ink : Ink) → moving plan scene around (tree_of (statement.Return None)) ink ≡ leaving plan scene around ink
on_leave plan scene around ink =
    ap (λ it. moving plan scene around it ink) (of_return None) ∙ sym (leave_drawn plan scene around ink)
