-- What holds of the edges and nodes that have been drawn.
use Rattle.std.specs.Prelude.{◌≡◌, ℕ, suc, ◌<◌, length}
use Rattle.wm_flow.specs.Plain.{Arc}
use Rattle.wm_flow.specs.Graphs.{Sketch}
use Rattle.wm_graph_laws.specs.Each.{Each}
use Rattle.wm_graph_laws.specs.Ordered.{AreOrdered, IsRunning}

-- an edge that stands before each further one
pub record IsBehind (nodes least : ℕ) (arc : Arc) : Type 0 where
  pub source : arc.source < nodes
  pub target : suc arc.source ≡ nodes → arc.target < least

pub record Stands (nodes least : ℕ) (sketch : Sketch) : Type 0 where
  pub count : length sketch.node_shape ≡ nodes
  pub ordered : AreOrdered sketch.arcs
  pub behind : Each (IsBehind nodes least) sketch.arcs
  pub running : Each IsRunning sketch.arcs
