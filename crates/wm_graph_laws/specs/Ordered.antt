-- The order of the edges of a graph.
use Rattle.std.specs.Prelude.{◌≡◌, suc, ◌<◌, ◌≤◌, ◌⊎◌, List, [], ◌∷◌}
use Rattle.wm_flow.specs.Plain.{Arc}
use Rattle.wm_graph_laws.specs.Each.{Each}
use Rattle.wm_graph_laws.specs.Manner.{Manner, Into, Back, Onward, manner}

-- an edge stands before another: by its source, and at one source by its target
abbrev pub IsBefore : Arc → Arc → Type 0
IsBefore a b = (a.source < b.source) ⊎ ((a.source ≡ b.source) × (a.target < b.target))

-- each edge stands before all that follow it, so no two have the same ends
abbrev pub AreOrdered : List Arc → Type 0
AreOrdered [] = Unit {0}
AreOrdered (arc ∷ rest) = Each (IsBefore arc) rest × AreOrdered rest

-- the edge into a loop leads to the next node, the one back to its head to no later one, and each other one to a later one
abbrev pub Runs : Manner → Arc → Type 0
Runs Into arc = arc.target ≡ suc arc.source
Runs Back arc = arc.target ≤ arc.source
Runs Onward arc = arc.source < arc.target

abbrev pub IsRunning : Arc → Type 0
IsRunning arc = Runs (manner arc.doing) arc
