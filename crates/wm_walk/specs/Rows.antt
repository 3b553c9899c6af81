-- What is known of each node before a walk.
use Rattle.std.specs.Prelude.{ℕ, ◌≡◌, ◌<◌, length, slice_index_or, [], None}
use Rattle.wm_flow.specs.declared.graph.Graph.{Graph}
use Rattle.wm_incoming.specs.Into.{numbers_into}
use Rattle.wm_incoming.specs.Standing.{head_at}
use Rattle.wm_walk.specs.declared.rows.Rows.{Rows}

-- the edges to each node of the graph, and the heads
pub record AreRows (graph : Graph) (rows : Rows) : Type 0 where
  pub into : (node : ℕ) → node < length graph.node_shape → slice_index_or rows.into.items node [] ≡ numbers_into node graph.edges
  pub heads : (node : ℕ) → node < length graph.node_shape → slice_index_or rows.heads.items node None ≡ head_at node graph.heads
