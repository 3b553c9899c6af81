-- The number of the head that stands at a node.
use Rattle.std.specs.Prelude.{ℕ, suc, if◌then◌else◌, ◌==◌, List, [], ◌∷◌, Option, Some, None}
use Rattle.wm_flow.specs.declared.graph.Head.{Head}

-- the head of a node when a head at this place has been seen
abbrev pub with_head : (place number node : ℕ) → Option ℕ → Option ℕ
with_head place number node found = if place == node then Some number else found

-- the same of the heads from a number on
abbrev pub head_from : (node number : ℕ) → List Head → Option ℕ → Option ℕ
head_from node number [] found = found
head_from node number (head ∷ rest) found = head_from node (suc number) rest (with_head head.node number node found)

-- no two heads stand at one node
abbrev pub head_at : (node : ℕ) → List Head → Option ℕ
head_at node heads = head_from node 0 heads None
