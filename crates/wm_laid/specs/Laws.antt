-- The graphs that are laid out as the laws on paths ask.
use Rattle.std.specs.Prelude.{◌≡◌, List}
use Rattle.wm_program.specs.Code.{Code}
use Rattle.wm_program.specs.WellFormed.{WellFormedCode}
use Rattle.wm_flow.specs.declared.graph.Graph.{Graph}
use Rattle.wm_flow.specs.declared.graph.Sum.{Sum}
use Rattle.wm_flow.specs.Views.{flow_of}
use Rattle.wm_flow.specs.Graphs.{graph_of}
use Rattle.wm_graph_laws.specs.Laws.{IsOrderly, IsHeaded}
use Rattle.wm_heads.specs.Bodies.{LoopsStand}
use Rattle.wm_path_laws.specs.Choices.{IsLaidOut}

abbrev pub HeadedAreLaidOut : Type 0
HeadedAreLaidOut = (graph : Graph) → IsOrderly (flow_of graph) → IsHeaded (flow_of graph) → IsLaidOut graph

-- the graph of a program
abbrev pub FormedAreLaidOut : Type 0
FormedAreLaidOut =
    (code : Code) (sums : List Sum) (graph : Graph) →
    WellFormedCode code → LoopsStand code → flow_of graph ≡ graph_of code sums → IsLaidOut graph
