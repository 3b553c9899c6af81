-- Edges of a number, and all of a graph.
use Rattle.std.proofs.Common.{◌≡◌, ℕ, ◌<◌, ◌≤◌, length, Option, Some, None, sym, subst, arith}
use Rattle.std.specs.Prelude.{slice_get}
use Rattle.std.proofs.lemmas.Option.{slice_get_within}
use Rattle.wm_flow.specs.declared.graph.Edge.{Edge}
use Rattle.wm_flow.specs.declared.graph.Graph.{Graph}
use Rattle.wm_images.specs.Nodes.{node_shape}
use Rattle.wm_walk.specs.Graphs.{AreDrawn}
use Rattle.wm_drawn.specs.Drawn.{Fits, EdgeFits, IsDrawn}

pub none_drawn : (graph : Graph) (number : ℕ) → slice_get graph.edges number ≡ None → IsDrawn graph number
none_drawn graph number e = subst (λ (o : Option Edge). EdgeFits graph o) (sym e) tt

pub some_drawn : (graph : Graph) (number : ℕ) (edge : Edge) → slice_get graph.edges number ≡ Some edge → Fits graph (node_shape graph edge.source) (node_shape graph edge.target) edge.action → IsDrawn graph number
some_drawn graph number edge e h = subst (λ (o : Option Edge). EdgeFits graph o) (sym e) h

pub all_drawn : (graph : Graph) (n : ℕ) → ((k : ℕ) → k < n → IsDrawn graph k) → length graph.edges ≤ n → AreDrawn IsDrawn graph
all_drawn graph n h le = record { each = λ number edge e. h number (omega (arith, slice_get_within graph.edges number edge e, le)) }
