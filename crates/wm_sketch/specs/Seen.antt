-- What a sketch shows.
use Rattle.std.specs.Prelude.{ℕ, List, [], ◌∷◌, ◌++◌, slice_index_or, slice_set}
use Rattle.wm_domain.specs.declared.shape.Shape.{Shape}
use Rattle.wm_flow.specs.declared.graph.Edge.{Edge}
use Rattle.wm_flow.specs.Plain.{Layout, Arc}
use Rattle.wm_flow.specs.Views.{layout_of, arc_of}
use Rattle.wm_flow.specs.Graphs as graphs
use Rattle.wm_sketch.specs.declared.known.Known.{Known}

abbrev pub known_of : Known → graphs.Known
known_of known = record { temporaries = known.temporaries; number = known.number }

abbrev pub row_of : List Known → List graphs.Known
row_of [] = []
row_of (known ∷ rest) = known_of known ∷ row_of rest

abbrev pub rows_of : List (List Known) → List (List graphs.Known)
rows_of [] = []
rows_of (row ∷ rest) = row_of row ∷ rows_of rest

-- one more behind those of a context
abbrev pub known_set : List (List Known) → ℕ → Known → List (List Known)
known_set rows context known = slice_set rows context (slice_index_or rows context [] ++ known ∷ [])

abbrev pub layouts_of : List Shape → List Layout
layouts_of [] = []
layouts_of (shape ∷ rest) = layout_of shape ∷ layouts_of rest

abbrev pub arcs_of : List Edge → List Arc
arcs_of [] = []
arcs_of (edge ∷ rest) = arc_of edge ∷ arcs_of rest
