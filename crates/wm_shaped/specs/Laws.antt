-- The shapes of the nodes of a well-formed program whose loops stand once each.
use Rattle.std.specs.Prelude.{List}
use Rattle.wm_program.specs.Code.{Code}
use Rattle.wm_program.specs.WellFormed.{WellFormedCode}
use Rattle.wm_flow.specs.declared.graph.Sum.{Sum}
use Rattle.wm_flow.specs.Parts.{plan_of}
use Rattle.wm_flow.specs.Graphs.{graph_of}
use Rattle.wm_heads.specs.Bodies.{LoopsStand}
use Rattle.wm_shaped.specs.Spots.{all_spots, IsShaped}

-- each node has the shape of its instance, its counters and its temporaries
abbrev pub FormedAreShaped : Type 0
FormedAreShaped =
    (code : Code) (sums : List Sum) →
    WellFormedCode code → LoopsStand code → IsShaped code (all_spots (plan_of code sums)) (graph_of code sums)
