-- Choices: paths with the paths of the turns of the loops on them.
use Rattle.std.specs.Prelude.{◌≡◌, ◌≢◌, ℕ, zero, suc, ◌+◌, ◌*◌, ◌<◌, ◌≤◌, ◌⊎◌, true, false, List, [], ◌∷◌, length, Option, Some, None, slice_get, slice_index_or}
use Rattle.wm_ops.specs.declared.words.Counted.{Counted}
use Rattle.wm_cost.specs.Edges.{word_of, word_weight}
use Rattle.wm_cost.specs.Turnings.{source_at}
use Rattle.wm_flow.specs.declared.graph.Edge.{Edge}
use Rattle.wm_flow.specs.declared.graph.Facts.{Facts}
use Rattle.wm_flow.specs.declared.graph.Graph.{Graph}
use Rattle.wm_flow.specs.declared.graph.Head.{Head}
use Rattle.wm_path.specs.declared.choice.Body.{Body}
use Rattle.wm_path.specs.declared.choice.Choice.{Choice}
use Rattle.wm_path.specs.declared.choice.Choice.TheOpen.{Choice-F}
use Rattle.wm_path.specs.declared.choice.Choice.TheFolds.{fold-Choice}
use Rattle.wm_path.specs.declared.choice.Choice.TheViews.{out-Choice}

-- ---- graphs

-- the edge of this number is the back edge of no head
abbrev pub IsNoBack : Graph → (number : ℕ) → Type 0
IsNoBack graph number = (k : ℕ) (head : Head) → slice_get graph.heads k ≡ Some head → number ≢ head.back

-- What the laws ask of a graph.
pub record IsLaidOut (graph : Graph) : Type 0 where
  -- the edges stand in the order of their sources
  pub ordered : (i j : ℕ) (a b : Edge) → i < j → slice_get graph.edges i ≡ Some a → slice_get graph.edges j ≡ Some b → a.source ≤ b.source
  -- they lead from nodes to nodes
  pub among : (i : ℕ) (edge : Edge) → slice_get graph.edges i ≡ Some edge → (edge.source < length graph.node_shape) × (edge.target < length graph.node_shape)
  -- what is no back edge leads to a higher node
  pub rises : (i : ℕ) (edge : Edge) → slice_get graph.edges i ≡ Some edge → IsNoBack graph i → edge.source < edge.target
  -- the back edge of a head leads to it, from a node that is not below it
  pub backs : (k : ℕ) (head : Head) → slice_get graph.heads k ≡ Some head → ((back : Edge) × (slice_get graph.edges head.back ≡ Some back) × (back.target ≡ head.node) × (head.node ≤ back.source))
  -- one head stands at a node
  pub apart : (j k : ℕ) (a b : Head) → slice_get graph.heads j ≡ Some a → slice_get graph.heads k ≡ Some b → a.node ≡ b.node → j ≡ k
  -- a head is entered by its entry edge and by its back edge
  pub entered : (k : ℕ) (head : Head) (i : ℕ) (edge : Edge) → slice_get graph.heads k ≡ Some head → slice_get graph.edges i ≡ Some edge → edge.target ≡ head.node → (i ≡ head.entry) ⊎ (i ≡ head.back)

-- a graph, the weights of words, and what is known of its edges, heads and nodes
pub record Setting : Type 0 where
  pub graph : Graph
  pub weights : List (Option ℕ)
  pub facts : Facts

abbrev pub IsLive : Setting → (number : ℕ) → Type 0
IsLive s number = slice_index_or s.facts.live number false ≡ true

-- the source of the back edge of a head
abbrev pub last_of : Setting → Head → ℕ
last_of s head = source_at s.graph.edges head.back

-- the head of this number is the head of a loop
abbrev pub IsLoop : Setting → (k : ℕ) → Head → Type 0
IsLoop s k head = (slice_get s.graph.heads k ≡ Some head) × (head.loop_id ≢ None)

-- ---- lists of edges

-- a list of live edges without back edges leads from a node to another
abbrev pub Leads : Setting → (from : ℕ) → (numbers : List ℕ) → (to : ℕ) → Type 0
Leads s from [] to = from ≡ to
Leads s from (number ∷ numbers) to =
    (edge : Edge) × (slice_get s.graph.edges number ≡ Some edge) × IsLive s number × IsNoBack s.graph number
    × (edge.source ≡ from) × Leads s edge.target numbers to

-- the edge of this number leads into the head of a loop
abbrev pub Meets : Setting → (number k : ℕ) → Head → Type 0
Meets s number k head =
    (edge : Edge) × (slice_get s.graph.edges number ≡ Some edge) × IsLoop s k head × (edge.target ≡ head.node)

-- some list of edges leads through the body of a loop
abbrev pub IsThrough : Setting → Head → List ℕ → Type 0
IsThrough s head numbers = Leads s head.node numbers (last_of s head)

-- ---- choices

-- the choice of a turn of a loop, with the number of its head and its trips
abbrev pub IsTurn : (IsInner : ℕ → ℕ → Choice → Type 0) → Setting → (k : ℕ) → Head → Body Choice → Type 0
IsTurn IsInner s k head body =
    (body.head ≡ k) × (slice_index_or s.facts.turns k None ≡ Some body.turns) × IsInner head.node (last_of s head) body.choice

-- The second part of a choice: in the order of the edges a choice for each head of a loop to which one leads, where some list
-- of edges leads through the loop's body.
abbrev pub AreTurns : (IsInner : ℕ → ℕ → Choice → Type 0) → Setting → List ℕ → List (Body Choice) → Type 0
AreTurns IsInner s [] bodies = bodies ≡ []
AreTurns IsInner s (number ∷ numbers) bodies =
    (((k : ℕ) (head : Head) → Meets s number k head → ⊥) × AreTurns IsInner s numbers bodies)
    ⊎ (((k : ℕ) × (head : Head) × Meets s number k head × ((way : List ℕ) → IsThrough s head way → ⊥)) × AreTurns IsInner s numbers bodies)
    ⊎ ((k : ℕ) × (head : Head) × (body : Body Choice) × (rest : List (Body Choice)) × Meets s number k head × (bodies ≡ body ∷ rest)
    × IsTurn IsInner s k head body × AreTurns IsInner s numbers rest)

-- a choice from a node to another, in which choices stand less than so many levels inside one another
abbrev pub IsWithin : (levels : ℕ) → Setting → (from to : ℕ) → Choice → Type 0
IsWithin zero s from to choice = ⊥
IsWithin (suc levels) s from to choice =
    Leads s from (out-Choice choice).edges to × AreTurns (IsWithin levels s) s (out-Choice choice).edges (out-Choice choice).bodies

abbrev pub IsChoice : Setting → (from to : ℕ) → Choice → Type 0
IsChoice s from to choice = (levels : ℕ) × IsWithin levels s from to choice

-- ---- weights

abbrev pub word_in : Option Edge → Option Counted
word_in None = None
word_in (Some edge) = word_of edge.action

-- an edge weighs as the word that it counts
abbrev pub edge_weight : Setting → ℕ → ℕ
edge_weight s number = word_weight s.weights (word_in (slice_get s.graph.edges number))

abbrev pub edges_weight : Setting → List ℕ → ℕ
edges_weight s [] = 0
edges_weight s (number ∷ numbers) = edge_weight s number + edges_weight s numbers

-- each head's trips times the weight of its choice
abbrev pub turns_weight : List (Body ℕ) → ℕ
turns_weight [] = 0
turns_weight (body ∷ rest) = body.turns * body.choice + turns_weight rest

abbrev pub weight_step : Setting → Choice-F ℕ → ℕ
weight_step s it = edges_weight s it.edges + turns_weight it.bodies

abbrev pub weight_of : Setting → Choice → ℕ
weight_of s = fold-Choice ℕ (weight_step s)
