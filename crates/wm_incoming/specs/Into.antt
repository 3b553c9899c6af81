-- The numbers of the edges that lead to a node, in their order.
use Rattle.std.specs.Prelude.{ℕ, suc, if◌then◌else◌, ◌==◌, List, [], ◌∷◌, ◌++◌}
use Rattle.wm_flow.specs.declared.graph.Edge.{Edge}

-- the row of a node when an edge to this target has been seen
abbrev pub with_edge : (target number node : ℕ) → List ℕ → List ℕ
with_edge target number node row = if target == node then row ++ number ∷ [] else row

-- the same of the edges from a number on
abbrev pub numbers_from : (node number : ℕ) → List Edge → List ℕ → List ℕ
numbers_from node number [] row = row
numbers_from node number (edge ∷ rest) row = numbers_from node (suc number) rest (with_edge edge.target number node row)

abbrev pub numbers_into : (node : ℕ) → List Edge → List ℕ
numbers_into node edges = numbers_from node 0 edges []
