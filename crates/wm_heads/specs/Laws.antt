-- The heads of a well-formed program whose loops stand once each.
use Rattle.std.specs.Prelude.{List}
use Rattle.wm_program.specs.Code.{Code}
use Rattle.wm_program.specs.WellFormed.{WellFormedCode}
use Rattle.wm_flow.specs.declared.graph.Sum.{Sum}
use Rattle.wm_flow.specs.Parts.{plan_of}
use Rattle.wm_flow.specs.Graphs.{graph_of}
use Rattle.wm_graph_laws.specs.Begun.{HeadsStand}
use Rattle.wm_graph_laws.specs.Laws.{IsOrderly, IsHeaded}
use Rattle.wm_heads.specs.Bodies.{LoopsStand}

-- each head is begun once
abbrev pub FormedHeadsStand : Type 0
FormedHeadsStand = (code : Code) (sums : List Sum) → WellFormedCode code → LoopsStand code → HeadsStand (plan_of code sums)

abbrev pub FormedGraphsAreOrderly : Type 0
FormedGraphsAreOrderly = (code : Code) (sums : List Sum) → WellFormedCode code → IsOrderly (graph_of code sums)

abbrev pub FormedGraphsAreHeaded : Type 0
FormedGraphsAreHeaded = (code : Code) (sums : List Sum) → WellFormedCode code → LoopsStand code → IsHeaded (graph_of code sums)
