-- The structure of the graph of a program.
use Rattle.std.specs.Prelude.{◌≡◌, ℕ, ◌<◌, ◌≤◌, ◌⊎◌, List, [], ◌∷◌, ◌++◌, length, Some, slice_index_or}
use Rattle.wm_program.specs.Code.{Code}
use Rattle.wm_program.specs.WellFormed.{WellFormedCode}
use Rattle.wm_flow.specs.declared.graph.Sum.{Sum}
use Rattle.wm_flow.specs.Plain.{Arc, Flow}
use Rattle.wm_flow.specs.declared.graph.Head.{Head}
use Rattle.wm_flow.specs.Parts.{plan_of}
use Rattle.wm_flow.specs.Graphs.{no_head, graph_of}
use Rattle.wm_graph_laws.specs.Each.{Each}
use Rattle.wm_graph_laws.specs.Ordered.{AreOrdered, IsRunning}
use Rattle.wm_graph_laws.specs.Calling.{CallsStand}
use Rattle.wm_graph_laws.specs.Begun.{HeadsStand}
use Rattle.wm_graph_laws.specs.Loops.{At, Loop}

-- The edges stand by source, and at one source by target; they run on, but for the last one, which is the back edge of the
-- frame head.
pub record IsOrderly (flow : Flow) : Type 0 where
  pub ordered : AreOrdered flow.arcs
  pub earlier : List Arc
  pub last : Arc
  pub all : flow.arcs ≡ earlier ++ last ∷ []
  pub running : Each IsRunning earlier
  pub back : last.target ≤ last.source

abbrev pub GraphsAreOrderly : Type 0
GraphsAreOrderly = (code : Code) (sums : List Sum) → CallsStand code → IsOrderly (graph_of code sums)

abbrev pub head_at : Flow → ℕ → Head
head_at flow number = slice_index_or flow.heads number no_head

-- Each head has its entry and its back edge, and no other edge leads to its node; two heads have two nodes; an edge that is
-- the back edge of no head leads to a higher node; each edge runs between nodes that are there.
pub record IsHeaded (flow : Flow) : Type 0 where
  pub loops : (number : ℕ) → number < length flow.heads → Loop flow.arcs (head_at flow number).node (head_at flow number).entry (Some (head_at flow number).back)
  pub apart : (a b : ℕ) → a < length flow.heads → b < length flow.heads → (head_at flow a).node ≡ (head_at flow b).node → a ≡ b
  pub rising : (k : ℕ) (arc : Arc) → At flow.arcs k arc → (arc.source < arc.target) ⊎ ((number : ℕ) × (number < length flow.heads) × (k ≡ (head_at flow number).back))
  pub among : Each (λ (arc : Arc). (arc.source < length flow.node_shape) × (arc.target < length flow.node_shape)) flow.arcs

abbrev pub GraphsAreHeaded : Type 0
GraphsAreHeaded =
    (code : Code) (sums : List Sum) → CallsStand code → HeadsStand (plan_of code sums) → IsHeaded (graph_of code sums)

-- in a well-formed program each call enters an instance that is there, behind the caller's
abbrev pub FormedCallsStand : Type 0
FormedCallsStand = (code : Code) → WellFormedCode code → CallsStand code
