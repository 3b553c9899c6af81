-- How many nodes a statement makes does not rest on where it leads.
use Rattle.std.proofs.Common.{◌≡◌, ℕ, suc, ◌+◌, Bool, List, [], ◌++◌, Option, refl, ap, sym, ◌∙◌}
use Rattle.wm_program.specs.Tree.{Expression, Test, Effect, Fresh, Tree, Skip, Seq, Block, Empty, Declare, Act, If, IfElse, For, While, Do, Break, Continue, Return, Leave}
use Rattle.wm_flow.specs.declared.scene.Scene.{Scene}
use Rattle.wm_flow.specs.Places.{Plan}
use Rattle.wm_flow.specs.Tests.{test_size}
use Rattle.wm_flow.specs.Effects.{effects_size}
use Rattle.wm_trees.specs.Laws.{leading}
use Rattle.wm_flow.specs.Statements.{Around, in_block, made_in, inside, word_size, ties_size, clear_size, return_size, tree_size}

pub same_size : (plan : Plan) (tree : Tree) (scene : Scene) (s a e t b f : ℕ) (near far : List ℕ) → tree_size plan tree scene (leading s a e near far) ≡ tree_size plan tree scene (leading t b f near far)
unfolding tree_size return_size
same_size plan Skip scene s a e t b f near far = refl
same_size plan (Seq first rest) scene s a e t b f near far =
    ap (λ n. n + tree_size plan rest scene (leading s a e near far)) (same_size plan first scene s a e t b f near far)
    ∙ ap (λ n. tree_size plan first scene (leading t b f near far) + n) (same_size plan rest scene s a e t b f near far)
same_size plan (Block tree) scene s a e t b f near far =
    ap (λ n. n + clear_size plan scene (made_in tree)) (same_size plan tree scene s a e t b f (made_in tree ++ near) far)
same_size plan Empty scene s a e t b f near far = refl
same_size plan (Declare fresh) scene s a e t b f near far = refl
same_size plan (Act effect) scene s a e t b f near far = refl
same_size plan (If is_counted test first) scene s a e t b f near far =
    ap (λ n. word_size is_counted + test_size plan scene test + 1 + n + 1) (same_size plan first scene s a e t b f near far)
same_size plan (IfElse is_counted test first is_else_counted otherwise) scene s a e t b f near far =
    ap (λ n. word_size is_counted + test_size plan scene test + 1 + n + 1 + word_size is_else_counted + tree_size plan otherwise scene (leading s a e near far) + 1) (same_size plan first scene s a e t b f near far)
    ∙ ap (λ n. word_size is_counted + test_size plan scene test + 1 + tree_size plan first scene (leading t b f near far) + 1 + word_size is_else_counted + n + 1) (same_size plan otherwise scene s a e t b f near far)
same_size plan (For is_counted loop begin test after body) scene s a e t b f near far =
    let within = inside scene loop in
    ap (λ n. word_size is_counted + effects_size plan scene begin + 1 + ties_size plan within + test_size plan within test + 1 + ties_size plan within + n + 1 + effects_size plan within after + 1) (same_size plan body within 0 0 e 0 0 f [] (near ++ far))
same_size plan (While is_counted loop test body) scene s a e t b f near far =
    let within = inside scene loop in
    ap (λ n. 1 + ties_size plan within + word_size is_counted + test_size plan within test + 1 + ties_size plan within + n + 1 + 1) (same_size plan body within 0 0 e 0 0 f [] (near ++ far))
same_size plan (Do is_counted is_tail_counted loop body test) scene s a e t b f near far =
    let within = inside scene loop in
    ap (λ n. word_size is_counted + 1 + ties_size plan within + n + 1 + word_size is_tail_counted + test_size plan within test + 1 + 1) (same_size plan body within 0 0 e 0 0 f [] (near ++ far))
same_size plan (Break is_counted) scene s a e t b f near far = refl
same_size plan (Continue is_counted) scene s a e t b f near far = refl
same_size plan (Return x narrowing) scene s a e t b f near far = refl
same_size plan Leave scene s a e t b f near far = refl
