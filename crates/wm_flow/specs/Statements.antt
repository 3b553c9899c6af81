-- The nodes and edges of statements. A statement begins and ends at a node without temporaries. Where two ways join, the
-- first has an edge of its own. How many nodes a statement makes is told before it is looked at, so that the target of a
-- break or a return is known.
use Rattle.std.specs.Prelude.{ℕ, zero, suc, ◌+◌, Bool, true, false, not, ◌&&◌, if◌then◌else◌, ◌==◌, List, [], ◌∷◌, ◌++◌, map, length, ℤ, Option, Some, None, slice_get}
use Rattle.std.specs.Option.{option_map_or}
use Rattle.wm_ops.specs.declared.words.ControlWord.{ControlWord}
use Rattle.wm_ops.specs.declared.words.ControlWord.TheVariants as words
use Rattle.wm_ops.specs.declared.words.Counted.TheVariants as counted
use Rattle.wm_program.specs.Tree.{Expression, Test, Effect, Fresh, Tree, Given, Filled, Blank, Listed, Skip, Seq, Block, Empty, Declare, Act, If, IfElse, For, While, Do, Break, Continue, Return, Leave}
use Rattle.wm_domain.specs.declared.form.Term.{Term}
use Rattle.wm_flow.specs.declared.action.Growth.{Growth}
use Rattle.wm_flow.specs.declared.graph.Sum.{Sum}
use Rattle.wm_flow.specs.declared.kept.Kept.{Kept}
use Rattle.wm_flow.specs.declared.seats.LocalSeat.{LocalSeat}
use Rattle.wm_flow.specs.declared.seats.LocalSeat.TheVariants as local_seat
use Rattle.wm_flow.specs.Plain.{Doing, AssignForm, Clear, Reset, Turn, Tie}
use Rattle.wm_flow.specs.Plain as plain
use Rattle.wm_flow.specs.Kept.{form_of, is_side}
use Rattle.wm_flow.specs.declared.scene.Scene.{Scene}
use Rattle.wm_flow.specs.declared.scene.Bases.{Bases}
use Rattle.wm_flow.specs.Places.{Plan, bases_of, temporary, counter, first_sum, scalar_place, local_seat_at, sums_in, head_of, is_named}
use Rattle.wm_flow.specs.Strokes.{Stroke, Line, Begins, Turns, point, step, nothing}
use Rattle.wm_flow.specs.Yields.{to_temporary}
use Rattle.wm_flow.specs.Expressions.{value, size, strokes, behind, narrow_size, narrow_strokes}
use Rattle.wm_flow.specs.Tests.{test_size, test_strokes}
use Rattle.wm_flow.specs.Effects.{effects_size, effects_strokes, effect_size, effect_strokes, declared_size, declared_strokes}

-- ---- blocks: where one is left, its scalars may have any number from there on

-- the scalars that a block declares itself, by their numbers among the locals
abbrev pub scalar_made : Fresh → List ℕ
scalar_made (Given local x narrowing) = local ∷ []
scalar_made (Filled local width) = local ∷ []
scalar_made (Blank local count) = []
scalar_made (Listed local count values) = []

abbrev pub scalars_made : List Fresh → List ℕ
scalars_made [] = []
scalars_made (fresh ∷ rest) = scalar_made fresh ++ scalars_made rest

abbrev pub made_in : Tree → List ℕ
made_in (Seq first rest) = made_in first ++ made_in rest
made_in (Declare fresh) = scalars_made fresh
made_in Skip = []
made_in (Block tree) = []
made_in Empty = []
made_in (Act effect) = []
made_in (If is_counted test first) = []
made_in (IfElse is_counted test first is_else_counted otherwise) = []
made_in (For is_counted loop begin test after body) = []
made_in (While is_counted loop test body) = []
made_in (Do is_counted is_tail_counted loop body test) = []
made_in (Break is_counted) = []
made_in (Continue is_counted) = []
made_in (Return x narrowing) = []
made_in Leave = []

-- those that are no arrays, as variables
abbrev pub variable_among : Bases → LocalSeat → List ℕ
variable_among bases (local_seat.Scalar k) = scalar_place bases k ∷ []
variable_among bases (local_seat.Array k) = []

abbrev pub variables_of : Plan → Scene → List ℕ → List ℕ
variables_of plan scene [] = []
variables_of plan scene (local ∷ rest) =
    variable_among (bases_of plan scene) (local_seat_at plan.tables scene.function local)
    ++ variables_of plan scene rest

abbrev pub clear_of : List ℕ → ℕ
clear_of [] = 0
clear_of (v ∷ rest) = 1

unfoldable pub clear_size : Plan → Scene → List ℕ → ℕ
clear_size plan scene locals = clear_of (variables_of plan scene locals)

abbrev pub clearing : Plan → Scene → List ℕ → (node temporaries : ℕ) → List Stroke
clearing plan scene [] node temporaries = []
clearing plan scene (v ∷ rest) node temporaries = step plan scene node (Clear (v ∷ rest)) None temporaries

unfoldable pub clear_strokes : Plan → Scene → List ℕ → (node temporaries : ℕ) → List Stroke
clear_strokes plan scene locals node temporaries = clearing plan scene (variables_of plan scene locals) node temporaries

-- ---- words

abbrev pub word_size : Bool → ℕ
word_size is_counted = if is_counted then 1 else 0

unfoldable pub word_strokes : Plan → Scene → Bool → ControlWord → (node : ℕ) → List Stroke
word_strokes plan scene is_counted word node =
    if is_counted then step plan scene node (plain.Count (counted.Word word)) None 0 else []

-- ---- loops

-- inside a loop
abbrev pub inside : Scene → ℕ → Scene
inside scene loop = record scene { depth = suc scene.depth; inner = Some loop }

abbrev pub step_of : Plan → ℕ → ℕ
step_of plan loop = option_map_or (λ it. it.step) (slice_get plan.code.loops loop) 0

-- the sum counters, from a variable on
abbrev pub sum_places : ℕ → List Sum → List ℕ
sum_places v [] = []
sum_places v (sum ∷ rest) = v ∷ sum_places (suc v) rest

abbrev pub sum_growths : ℕ → List Sum → List Growth
sum_growths v [] = []
sum_growths v (sum ∷ rest) = record { variable = v; step = sum.step } ∷ sum_growths (suc v) rest

abbrev pub sums_of : Plan → Scene → List Sum
sums_of plan scene = sums_in plan scene.instance scene.inner

-- all counters are 0, where `scene` is inside the loop
unfoldable pub resetting : Plan → Scene → Doing
resetting plan scene =
    let bases = bases_of plan scene in Reset (counter bases ∷ sum_places (first_sum bases) (sums_of plan scene))

unfoldable pub turning : Plan → Scene → ℕ → Doing
turning plan scene loop =
    let bases = bases_of plan scene in
    Turn (record { variable = counter bases; step = step_of plan loop } ∷ sum_growths (first_sum bases) (sums_of plan scene))

abbrev pub ties_from : Plan → Scene → ℕ → (variable : ℕ) → List Sum → (node : ℕ) → List Stroke
ties_from plan scene loop v [] node = []
ties_from plan scene loop v (sum ∷ rest) node =
    step plan scene node (Tie (counter (bases_of plan scene)) (step_of plan loop) v sum.step) None 0
    ++ ties_from plan scene loop (suc v) rest (suc node)

-- one edge for each sum counter
abbrev pub ties_size : Plan → Scene → ℕ
ties_size plan scene = length (sums_of plan scene)

unfoldable pub ties_strokes : Plan → Scene → ℕ → (node : ℕ) → List Stroke
ties_strokes plan scene loop node = ties_from plan scene loop (first_sum (bases_of plan scene)) (sums_of plan scene) node

-- the edge that enters a loop, from this node
unfoldable pub enter_strokes : Plan → Scene → ℕ → (node : ℕ) → List Stroke
enter_strokes plan scene loop node =
    let within = inside scene loop in
    Line node (suc node) (resetting plan within) None
    ∷ Begins (head_of plan.tables scene.instance loop) (Some scene.instance) (Some loop) (suc node)
    ∷ point plan within 0 ∷ []

-- the back edge, from this node to the head, and the node behind the loop
unfoldable pub turn_strokes : Plan → Scene → ℕ → (node head : ℕ) → List Stroke
turn_strokes plan scene loop node head =
    Line node head (turning plan (inside scene loop) loop) None
    ∷ Turns (head_of plan.tables scene.instance loop)
    ∷ point plan scene 0 ∷ []

-- ---- statements

-- Where a statement leads but to the next one: the node behind the loop, the node at which its turn ends, and the exit;
-- and the scalars of the blocks that are left on the way, the inner ones first: those inside the loop, and the others.
pub record Around : Type 0 where
  pub stop : ℕ
  pub again : ℕ
  pub exit : ℕ
  pub near : List ℕ
  pub far : List ℕ

abbrev pub in_block : List ℕ → Around → Around
in_block locals around = record around { near = locals ++ around.near }

abbrev pub in_loop : (stop again : ℕ) → Around → Around
in_loop stop again around =
    record { stop = stop; again = again; exit = around.exit; near = []; far = around.near ++ around.far }

-- an edge without effect, and the node behind it that only a way from elsewhere reaches
abbrev pub jump : Plan → Scene → (node target : ℕ) → List Stroke
jump plan scene node target = Line node target nothing None ∷ point plan scene 0 ∷ []

-- an edge without effect to the next node, where two ways join
abbrev pub join : Plan → Scene → (node : ℕ) → List Stroke
join plan scene node = step plan scene node nothing None 0

-- ---- returns: the value stands in the one temporary of the exit

-- the value goes there unless it stands there
abbrev pub stands : Bases → Kept → Bool
stands bases kept =
    option_map_or (λ (term : Term). term.variable == temporary bases 0 && not term.negative) kept.first false
    && is_side kept

abbrev pub placed_size : Bases → Kept → ℕ
placed_size bases kept = if stands bases kept then 0 else 1

abbrev pub placed_strokes : Plan → Scene → Kept → (node : ℕ) → List Stroke
placed_strokes plan scene kept node =
    if stands (bases_of plan scene) kept then [] else to_temporary plan scene node 0 kept

unfoldable pub return_size : Plan → Scene → Around → Expression → Option ℕ → ℕ
return_size plan scene around x narrowing =
    size plan scene x 0 + narrow_size narrowing + placed_size (bases_of plan scene) (value plan scene x 0)
    + clear_size plan scene (around.near ++ around.far) + 1

unfoldable pub return_strokes : Plan → Scene → Around → Expression → Option ℕ → (node : ℕ) → List Stroke
return_strokes plan scene around x narrowing node =
    let kept = value plan scene x 0 in
    let second = node + size plan scene x 0 in
    let third = second + narrow_size narrowing in
    let fourth = third + placed_size (bases_of plan scene) kept in
    strokes plan scene x node 0
    ++ narrow_strokes plan scene narrowing kept second (behind plan scene x 0)
    ++ placed_strokes plan scene kept third
    ++ clear_strokes plan scene (around.near ++ around.far) fourth 1
    ++ jump plan scene (fourth + clear_size plan scene (around.near ++ around.far)) around.exit

-- ---- how many nodes a statement makes

module _ (plan : Plan) where
  unfoldable pub tree_size : Tree → Scene → Around → ℕ
  tree_size Skip scene around = 0
  tree_size (Seq first rest) scene around = tree_size first scene around + tree_size rest scene around
  tree_size (Block tree) scene around =
      tree_size tree scene (in_block (made_in tree) around) + clear_size plan scene (made_in tree)
  tree_size Empty scene around = 0
  tree_size (Declare fresh) scene around = declared_size plan scene fresh
  tree_size (Act effect) scene around = effect_size plan scene effect
  tree_size (If is_counted test first) scene around =
      word_size is_counted + test_size plan scene test + 1 + tree_size first scene around + 1
  tree_size (IfElse is_counted test first is_else_counted otherwise) scene around =
      word_size is_counted + test_size plan scene test + 1 + tree_size first scene around + 1
      + word_size is_else_counted + tree_size otherwise scene around + 1
  tree_size (For is_counted loop begin test after body) scene around =
      let within = inside scene loop in
      word_size is_counted + effects_size plan scene begin + 1 + ties_size plan within + test_size plan within test + 1
      + ties_size plan within + tree_size body within (in_loop 0 0 around) + 1 + effects_size plan within after + 1
  tree_size (While is_counted loop test body) scene around =
      let within = inside scene loop in
      1 + ties_size plan within + word_size is_counted + test_size plan within test + 1
      + ties_size plan within + tree_size body within (in_loop 0 0 around) + 1 + 1
  tree_size (Do is_counted is_tail_counted loop body test) scene around =
      let within = inside scene loop in
      word_size is_counted + 1 + ties_size plan within + tree_size body within (in_loop 0 0 around) + 1
      + word_size is_tail_counted + test_size plan within test + 1 + 1
  tree_size (Break is_counted) scene around = word_size is_counted + clear_size plan scene around.near + 1
  tree_size (Continue is_counted) scene around = word_size is_counted + clear_size plan scene around.near + 1
  tree_size (Return x narrowing) scene around = return_size plan scene around x narrowing
  tree_size Leave scene around = clear_size plan scene (around.near ++ around.far) + 1

  -- ---- the nodes and edges of a statement, from a node on

  -- a break or a continue, to this node
  abbrev pub jump_strokes : Scene → Bool → ControlWord → List ℕ → (node target : ℕ) → List Stroke
  jump_strokes scene is_counted word locals node target =
      let second = node + word_size is_counted in
      word_strokes plan scene is_counted word node
      ++ clear_strokes plan scene locals second 0
      ++ jump plan scene (second + clear_size plan scene locals) target

  unfoldable pub tree_strokes : Tree → Scene → Around → (node : ℕ) → List Stroke
  tree_strokes Skip scene around node = []
  tree_strokes (Seq first rest) scene around node =
      tree_strokes first scene around node ++ tree_strokes rest scene around (node + tree_size first scene around)
  tree_strokes (Block tree) scene around node =
      let locals = made_in tree in
      tree_strokes tree scene (in_block locals around) node
      ++ clear_strokes plan scene locals (node + tree_size tree scene (in_block locals around)) 0
  tree_strokes Empty scene around node = []
  tree_strokes (Declare fresh) scene around node = declared_strokes plan scene fresh node
  tree_strokes (Act effect) scene around node = effect_strokes plan scene effect node
  tree_strokes (If is_counted test first) scene around node =
      let asked = node + word_size is_counted in
      let hit = suc (asked + test_size plan scene test) in
      let end = hit + tree_size first scene around in
      word_strokes plan scene is_counted words.If node
      ++ test_strokes plan scene test asked hit (suc end)
      ++ point plan scene 0 ∷ tree_strokes first scene around hit
      ++ join plan scene end
  tree_strokes (IfElse is_counted test first is_else_counted otherwise) scene around node =
      let asked = node + word_size is_counted in
      let hit = suc (asked + test_size plan scene test) in
      let end = hit + tree_size first scene around in
      let miss = suc end in
      let other = miss + word_size is_else_counted in
      let last = other + tree_size otherwise scene around in
      word_strokes plan scene is_counted words.If node
      ++ test_strokes plan scene test asked hit miss
      ++ point plan scene 0 ∷ tree_strokes first scene around hit
      ++ jump plan scene end (suc last)
      ++ word_strokes plan scene is_else_counted words.Else miss
      ++ tree_strokes otherwise scene around other
      ++ join plan scene last
  tree_strokes (For is_counted loop begin test after body) scene around node =
      let within = inside scene loop in
      let first = node + word_size is_counted in
      let before = first + effects_size plan scene begin in
      let head = suc before in
      let asked = head + ties_size plan within in
      let hit = suc (asked + test_size plan within test) in
      let turn = hit + ties_size plan within in
      let end = turn + tree_size body within (in_loop 0 0 around) in
      let again = suc end in
      let last = again + effects_size plan within after in
      word_strokes plan scene is_counted words.For node
      ++ effects_strokes plan scene begin first
      ++ enter_strokes plan scene loop before
      ++ ties_strokes plan within loop head
      ++ test_strokes plan within test asked hit (suc last)
      ++ point plan within 0 ∷ ties_strokes plan within loop hit
      ++ tree_strokes body within (in_loop (suc last) again around) turn
      ++ join plan within end
      ++ effects_strokes plan within after again
      ++ turn_strokes plan scene loop last head
  tree_strokes (While is_counted loop test body) scene around node =
      let within = inside scene loop in
      let head = suc node in
      let first = head + ties_size plan within in
      let asked = first + word_size is_counted in
      let hit = suc (asked + test_size plan within test) in
      let turn = hit + ties_size plan within in
      let end = turn + tree_size body within (in_loop 0 0 around) in
      let again = suc end in
      enter_strokes plan scene loop node
      ++ ties_strokes plan within loop head
      ++ word_strokes plan within is_counted words.While first
      ++ test_strokes plan within test asked hit (suc again)
      ++ point plan within 0 ∷ ties_strokes plan within loop hit
      ++ tree_strokes body within (in_loop (suc again) again around) turn
      ++ join plan within end
      ++ turn_strokes plan scene loop again head
  tree_strokes (Do is_counted is_tail_counted loop body test) scene around node =
      let within = inside scene loop in
      let before = node + word_size is_counted in
      let head = suc before in
      let turn = head + ties_size plan within in
      let end = turn + tree_size body within (in_loop 0 0 around) in
      let again = suc end in
      let asked = again + word_size is_tail_counted in
      let hit = suc (asked + test_size plan within test) in
      word_strokes plan scene is_counted words.Do node
      ++ enter_strokes plan scene loop before
      ++ ties_strokes plan within loop head
      ++ tree_strokes body within (in_loop (suc hit) again around) turn
      ++ join plan within end
      ++ word_strokes plan within is_tail_counted words.While again
      ++ test_strokes plan within test asked hit (suc hit)
      ++ point plan within 0 ∷ turn_strokes plan scene loop hit head
  tree_strokes (Break is_counted) scene around node =
      jump_strokes scene is_counted words.Break around.near node around.stop
  tree_strokes (Continue is_counted) scene around node =
      jump_strokes scene is_counted words.Continue around.near node around.again
  tree_strokes (Return x narrowing) scene around node = return_strokes plan scene around x narrowing node
  tree_strokes Leave scene around node =
      clear_strokes plan scene (around.near ++ around.far) node 0
      ++ jump plan scene (node + clear_size plan scene (around.near ++ around.far)) around.exit
