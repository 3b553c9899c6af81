-- The sizes of conditions, effects and statements rest on those of the instances that they call alone.
use Rattle.std.proofs.Common.{◌≡◌, ℕ, suc, ◌+◌, List, [], ◌∷◌, ◌++◌, Option, Some, None, refl, ap, ◌∙◌}
use Rattle.std.specs.Prelude.{slice_index_or, pos}
use Rattle.wm_program.specs.Code.{Code}
use Rattle.wm_program.specs.Tree.{Expression, Arguments, Test, Effect, Fresh, Tree, Always, Either, Both, Not, Compare, Truth, Variable, Item, Assign, Update, Evaluate, Count, Given, Filled, Blank, Listed, Skip, Seq, Block, Empty, Declare, Act, If, IfElse, For, While, Do, Break, Continue, Return, Leave}
use Rattle.wm_program.specs.declared.tree.Array.{Array}
use Rattle.wm_flow.specs.declared.graph.Sum.{Sum}
use Rattle.wm_flow.specs.declared.seats.Tables.{Tables}
use Rattle.wm_flow.specs.declared.kept.Kept.{Kept}
use Rattle.wm_flow.specs.declared.scene.Scene.{Scene}
use Rattle.wm_flow.specs.declared.scene.Held.{Held}
use Rattle.wm_flow.specs.declared.scene.Sides.{Sides}
use Rattle.wm_flow.specs.Kept.{constant}
use Rattle.wm_flow.specs.declared.scene.Source.{Source}
use Rattle.wm_flow.specs.declared.scene.Source.TheVariants.{Cells, Fixed}
use Rattle.wm_flow.specs.declared.scene.Source.TheVariants as places
use Rattle.wm_flow.specs.Places.{Plan, bases_of, root_source, scalar_source, array_source, offset_of, overflow_place}
use Rattle.wm_flow.specs.Yields.{coming, yield_size, after}
use Rattle.wm_flow.specs.Expressions.{place_size, narrow_size, operate_size, operands, value, values_after, size, sizes, left_waiting, only_value, no_values}
use Rattle.wm_flow.specs.Tests.{Compared, Plainly, Number, Applied, compared, compared_number, sides_of, sides_size, evaluation_size, compared_size, test_size}
use Rattle.wm_flow.specs.Effects.{Direct, direct, stored_size, store_size, found_size, current, current_size, update_size, dropped_size, effect_size, effects_size, own_source, fresh_size, declared_size}
use Rattle.wm_flow.specs.Statements.{made_in, clear_size, word_size, inside, ties_size, Around, in_block, in_loop, placed_size, return_size, tree_size}
use Rattle.wm_flow.specs.Parts.{plan_with}
use Rattle.wm_graph_laws.specs.Each.{Each}
use Rattle.wm_graph_laws.specs.Invoked.{Invokes, InvokesAmong, TestInvokes, EffectInvokes, FreshInvokes, TreeInvokes}
use Rattle.wm_graph_laws.proofs.Same.{value_same, values_same, size_same, sizes_same}
use Rattle.wm_graph_laws.proofs.Tests.{ComparedInvokes, compared_invokes, number_invokes}
use Rattle.wm_graph_laws.proofs.Effects.{DirectInvokes, direct_invokes}

module _ (code : Code) (tables : Tables) (sums : List (List Sum)) (xs ys : List ℕ) (May : ℕ → Type 0) (agree : (instance : ℕ) → May instance → slice_index_or xs instance 0 ≡ slice_index_or ys instance 0) where
  abbrev one : Plan
  one = plan_with code tables sums xs

  abbrev other : Plan
  other = plan_with code tables sums ys

  module _ (scene : Scene) where
    abbrev Calls : ℕ → Type 0
    Calls offset = May (scene.instance + offset)

    abbrev v : (x : Expression) (t : ℕ) → value one scene x t ≡ value other scene x t
    v x t = value_same code tables sums xs ys scene x t

    abbrev n : (x : Expression) (t : ℕ) → Invokes Calls x → size one scene x t ≡ size other scene x t
    n x t i = size_same code tables sums xs ys scene May agree x t i

    abbrev vs : (args : Arguments) → values_after one scene args (no_values other scene 0) ≡ values_after other scene args (no_values other scene 0)
    vs args = values_same code tables sums xs ys scene args (no_values other scene 0)

    abbrev ns : (args : Arguments) → InvokesAmong Calls args → sizes one scene args (no_values other scene 0) ≡ sizes other scene args (no_values other scene 0)
    ns args i = sizes_same code tables sums xs ys scene May agree args (no_values other scene 0) i

    -- ---- conditions

    sides_same : (it : Compared) → sides_of one scene it ≡ sides_of other scene it
    unfolding bases_of
    sides_same (Plainly x mark y) =
        let sides : Kept → Kept → Sides = λ a b. record { left = only_value other scene (left_waiting other scene a y 0); right = b; temporaries = after (bases_of other scene) b (left_waiting other scene a y 0).temporaries } in
        ap (λ a. sides a (value one scene y (left_waiting other scene a y 0).temporaries)) (v x 0)
        ∙ ap (λ b. sides (value other scene x 0) b) (v y (left_waiting other scene (value other scene x 0) y 0).temporaries)
    sides_same (Number x) =
        let sides : Kept → Sides = λ a. record { left = a; right = constant (pos 0); temporaries = after (bases_of other scene) a 0 } in
        ap (λ a. sides a) (v x 0)
    sides_same (Applied op args site mark) =
        let sides : Held → Sides = λ held. let own = operands (bases_of other scene) held in record { left = slice_index_or own.values 0 (constant (pos 0)); right = slice_index_or own.values 1 (constant (pos 0)); temporaries = suc own.temporaries } in
        ap (λ held. sides held) (vs args)

    evaluation_same : (it : Compared) → ComparedInvokes Calls it → evaluation_size one scene it ≡ evaluation_size other scene it
    unfolding bases_of
    evaluation_same (Plainly x mark y) i =
        let here = bases_of other scene in
        ap (λ a. size one scene x 0 + yield_size here (coming y) (a ∷ []) + size one scene y (left_waiting other scene a y 0).temporaries) (v x 0)
        ∙ (ap (λ k. k + yield_size here (coming y) (value other scene x 0 ∷ []) + size one scene y (left_waiting other scene (value other scene x 0) y 0).temporaries) (n x 0 i.0)
        ∙ ap (λ k. size other scene x 0 + yield_size here (coming y) (value other scene x 0 ∷ []) + k) (n y (left_waiting other scene (value other scene x 0) y 0).temporaries i.1))
    evaluation_same (Number x) i = n x 0 i
    evaluation_same (Applied op args site mark) i =
        ap (λ k. k + operate_size (bases_of other scene) (values_after one scene args (no_values other scene 0))) (ns args i)
        ∙ ap (λ held. sizes other scene args (no_values other scene 0) + operate_size (bases_of other scene) held) (vs args)

    compared_same : (it : Compared) → ComparedInvokes Calls it → compared_size one scene it ≡ compared_size other scene it
    compared_same it i =
        ap (λ k. k + sides_size (sides_of one scene it)) (evaluation_same it i)
        ∙ ap (λ sides. evaluation_size other scene it + sides_size sides) (sides_same it)

    test_same : (test : Test) → TestInvokes Calls test → test_size one scene test ≡ test_size other scene test
    unfolding test_size
    test_same Always i = refl
    test_same (Either c d) i = ap (λ k. k + 1 + test_size one scene d) (test_same c i.0) ∙ ap (λ k. test_size other scene c + 1 + k) (test_same d i.1)
    test_same (Both c d) i = ap (λ k. k + 1 + test_size one scene d) (test_same c i.0) ∙ ap (λ k. test_size other scene c + 1 + k) (test_same d i.1)
    test_same (Not c) i = test_same c i
    test_same (Compare x mark y) i = compared_same (compared x mark y) (compared_invokes Calls x mark y i.0 i.1)
    test_same (Truth x) i = compared_same (compared_number x) (number_invokes Calls x i)

    -- ---- effects

    stored_same : (it : Option Direct) (x : Expression) (narrowing : Option ℕ) → DirectInvokes Calls it → Invokes Calls x → stored_size one scene it x narrowing ≡ stored_size other scene it x narrowing
    unfolding bases_of
    stored_same (Some it) x narrowing d i =
        ap (λ k. k + operate_size (bases_of other scene) (values_after one scene it.arguments (no_values other scene 0))) (ns it.arguments d)
        ∙ ap (λ held. sizes other scene it.arguments (no_values other scene 0) + operate_size (bases_of other scene) held) (vs it.arguments)
    stored_same None x narrowing d i = ap (λ k. k + narrow_size narrowing + 1) (n x 0 i)

    store_same : (source : Source) (x : Expression) (narrowing : Option ℕ) → Invokes Calls x → store_size one scene source x narrowing ≡ store_size other scene source x narrowing
    unfolding store_size bases_of
    store_same source x narrowing i =
        stored_same (direct (overflow_place (bases_of other scene)) source x narrowing) x narrowing
        (direct_invokes Calls (overflow_place (bases_of other scene)) source x narrowing i) i

    found_same : (array : Array) (index : Expression) → Invokes Calls index → found_size one scene array index ≡ found_size other scene array index
    unfolding bases_of root_source scalar_source array_source offset_of
    found_same array index i =
        ap (λ k. k + place_size (offset_of other scene array) (value one scene index 0)) (n index 0 i)
        ∙ ap (λ at. size other scene index 0 + place_size (offset_of other scene array) at) (v index 0)

    current_same : (source : Source) → current one scene source ≡ current other scene source
    unfolding bases_of
    current_same (places.Variable v) = refl
    current_same (Cells a) = refl
    current_same (Fixed low high) = refl

    current_sized : (source : Source) → current_size one scene source ≡ current_size other scene source
    current_sized (places.Variable v) = refl
    current_sized (Cells a) = refl
    current_sized (Fixed low high) = refl

    update_same : (source : Source) (x : Expression) (narrowing : Option ℕ) → Invokes Calls x → update_size one scene source x narrowing ≡ update_size other scene source x narrowing
    unfolding update_size bases_of
    update_same source x narrowing i =
        let here = bases_of other scene in
        ap (λ k. k + yield_size here (coming x) (current one scene source ∷ []) + size one scene x (left_waiting other scene (current one scene source) x 0).temporaries + 1 + narrow_size narrowing + 1) (current_sized source)
        ∙ (ap (λ was. current_size other scene source + yield_size here (coming x) (was ∷ []) + size one scene x (left_waiting other scene was x 0).temporaries + 1 + narrow_size narrowing + 1) (current_same source)
        ∙ ap (λ k. current_size other scene source + yield_size here (coming x) (current other scene source ∷ []) + k + 1 + narrow_size narrowing + 1) (n x (left_waiting other scene (current other scene source) x 0).temporaries i))

    effect_same : (effect : Effect) → EffectInvokes Calls effect → effect_size one scene effect ≡ effect_size other scene effect
    unfolding effect_size bases_of root_source scalar_source array_source
    effect_same (Assign (Variable scalar) x narrowing) i = store_same (scalar_source other scene scalar) x narrowing i.1
    effect_same (Assign (Item array index site) x narrowing) i =
        ap (λ k. k + store_size one scene (array_source other scene array) x narrowing) (found_same array index i.0)
        ∙ ap (λ k. found_size other scene array index + k) (store_same (array_source other scene array) x narrowing i.1)
    effect_same (Update (Variable scalar) mark x arithmetic narrowing) i = update_same (scalar_source other scene scalar) x narrowing i.1
    effect_same (Update (Item array index site) mark x arithmetic narrowing) i =
        ap (λ k. k + update_size one scene (array_source other scene array) x narrowing) (found_same array index i.0)
        ∙ ap (λ k. found_size other scene array index + k) (update_same (array_source other scene array) x narrowing i.1)
    effect_same (Evaluate x) i =
        ap (λ k. k + dropped_size one scene (value one scene x 0)) (n x 0 i)
        ∙ ap (λ kept. size other scene x 0 + dropped_size other scene kept) (v x 0)
    effect_same (Count call) i = refl

    effects_same : (effects : List Effect) → Each (EffectInvokes Calls) effects → effects_size one scene effects ≡ effects_size other scene effects
    unfolding effects_size
    effects_same [] i = refl
    effects_same (effect ∷ rest) i =
        ap (λ k. k + effects_size one scene rest) (effect_same effect i.0) ∙ ap (λ k. effect_size other scene effect + k) (effects_same rest i.1)

    fresh_same : (fresh : Fresh) → FreshInvokes Calls fresh → fresh_size one scene fresh ≡ fresh_size other scene fresh
    unfolding fresh_size bases_of root_source scalar_source
    fresh_same (Given local x narrowing) i = store_same (own_source other scene local) x narrowing i
    fresh_same (Filled local width) i = refl
    fresh_same (Blank local count) i = refl
    fresh_same (Listed local count values) i = refl

    declared_same : (fresh : List Fresh) → Each (FreshInvokes Calls) fresh → declared_size one scene fresh ≡ declared_size other scene fresh
    unfolding declared_size
    declared_same [] i = refl
    declared_same (fresh ∷ rest) i =
        ap (λ k. k + declared_size one scene rest) (fresh_same fresh i.0) ∙ ap (λ k. fresh_size other scene fresh + k) (declared_same rest i.1)

    -- ---- returns

    return_same : (around : Around) (x : Expression) (narrowing : Option ℕ) → Invokes Calls x → return_size one scene around x narrowing ≡ return_size other scene around x narrowing
    unfolding return_size clear_size bases_of
    return_same around x narrowing i =
        ap (λ k. k + narrow_size narrowing + placed_size (bases_of other scene) (value one scene x 0) + clear_size other scene (around.near ++ around.far) + 1) (n x 0 i)
        ∙ ap (λ kept. size other scene x 0 + narrow_size narrowing + placed_size (bases_of other scene) kept + clear_size other scene (around.near ++ around.far) + 1) (v x 0)

  -- ---- statements

  pub tree_same : (tree : Tree) (scene : Scene) (around : Around) → TreeInvokes (λ offset. May (scene.instance + offset)) tree → tree_size one tree scene around ≡ tree_size other tree scene around
  unfolding tree_size clear_size bases_of
  tree_same Skip scene around i = refl
  tree_same (Seq first rest) scene around i =
      ap (λ k. k + tree_size one rest scene around) (tree_same first scene around i.0)
      ∙ ap (λ k. tree_size other first scene around + k) (tree_same rest scene around i.1)
  tree_same (Block tree) scene around i =
      ap (λ k. k + clear_size other scene (made_in tree)) (tree_same tree scene (in_block (made_in tree) around) i)
  tree_same Empty scene around i = refl
  tree_same (Declare fresh) scene around i = declared_same scene fresh i
  tree_same (Act effect) scene around i = effect_same scene effect i
  tree_same (If is_counted test first) scene around i =
      ap (λ k. word_size is_counted + k + 1 + tree_size one first scene around + 1) (test_same scene test i.0)
      ∙ ap (λ k. word_size is_counted + test_size other scene test + 1 + k + 1) (tree_same first scene around i.1)
  tree_same (IfElse is_counted test first is_else_counted otherwise) scene around i =
      ap (λ k. word_size is_counted + k + 1 + tree_size one first scene around + 1 + word_size is_else_counted + tree_size one otherwise scene around + 1) (test_same scene test i.0)
      ∙ (ap (λ k. word_size is_counted + test_size other scene test + 1 + k + 1 + word_size is_else_counted + tree_size one otherwise scene around + 1) (tree_same first scene around i.1)
      ∙ ap (λ k. word_size is_counted + test_size other scene test + 1 + tree_size other first scene around + 1 + word_size is_else_counted + k + 1) (tree_same otherwise scene around i.2))
  tree_same (For is_counted loop begin test after body) scene around i =
      let within = inside scene loop in
      let sum : ℕ → ℕ → ℕ → ℕ → ℕ = λ a b c d. word_size is_counted + a + 1 + ties_size other within + b + 1 + ties_size other within + d + 1 + c + 1 in
      ap (λ k. sum k (test_size one within test) (effects_size one within after) (tree_size one body within (in_loop 0 0 around))) (effects_same scene begin i.0)
      ∙ (ap (λ k. sum (effects_size other scene begin) k (effects_size one within after) (tree_size one body within (in_loop 0 0 around))) (test_same within test i.1)
      ∙ (ap (λ k. sum (effects_size other scene begin) (test_size other within test) k (tree_size one body within (in_loop 0 0 around))) (effects_same within after i.2)
      ∙ ap (λ k. sum (effects_size other scene begin) (test_size other within test) (effects_size other within after) k) (tree_same body within (in_loop 0 0 around) i.3)))
  tree_same (While is_counted loop test body) scene around i =
      let within = inside scene loop in
      ap (λ k. 1 + ties_size other within + word_size is_counted + k + 1 + ties_size other within + tree_size one body within (in_loop 0 0 around) + 1 + 1) (test_same within test i.0)
      ∙ ap (λ k. 1 + ties_size other within + word_size is_counted + test_size other within test + 1 + ties_size other within + k + 1 + 1) (tree_same body within (in_loop 0 0 around) i.1)
  tree_same (Do is_counted is_tail_counted loop body test) scene around i =
      let within = inside scene loop in
      ap (λ k. word_size is_counted + 1 + ties_size other within + k + 1 + word_size is_tail_counted + test_size one within test + 1 + 1) (tree_same body within (in_loop 0 0 around) i.0)
      ∙ ap (λ k. word_size is_counted + 1 + ties_size other within + tree_size other body within (in_loop 0 0 around) + 1 + word_size is_tail_counted + k + 1 + 1) (test_same within test i.1)
  tree_same (Break is_counted) scene around i = refl
  tree_same (Continue is_counted) scene around i = refl
  tree_same (Return x narrowing) scene around i = return_same scene around x narrowing i
  tree_same Leave scene around i = refl
