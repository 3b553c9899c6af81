-- The loops of a graph whose number of turns is bounded.
use Rattle.std.specs.Prelude.{ℕ, suc, List, [], ◌∷◌, ◌++◌, Option, Some, None, slice_get, slice_index_or}
use Rattle.wm_flow.specs.declared.graph.Edge.{Edge}
use Rattle.wm_flow.specs.declared.graph.Head.{Head}
use Rattle.wm_ways.specs.declared.ways.Turning.{Turning}

abbrev pub source_of : Option Edge → ℕ
source_of None = 0
source_of (Some edge) = edge.source

-- the node from which an edge leads
abbrev pub source_at : List Edge → ℕ → ℕ
source_at edges number = source_of (slice_get edges number)

-- the loop of a head, and none at the frame head, which has no number of a loop
abbrev pub loop_at : (last : ℕ) → Head → (loop_id turns : Option ℕ) → List Turning
loop_at last head None turns = []
loop_at last head (Some loop_id) None = []
loop_at last head (Some loop_id) (Some turns) =
    record { node = head.node; last = last; back = head.back; turns = turns } ∷ []

unfoldable pub turning_of : List Edge → (turns : Option ℕ) → Head → List Turning
turning_of edges turns head = loop_at (source_at edges head.back) head head.loop_id turns

abbrev pub turnings_from : List Edge → List (Option ℕ) → (number : ℕ) → List Head → List Turning
turnings_from edges turns number [] = []
turnings_from edges turns number (head ∷ rest) =
    turning_of edges (slice_index_or turns number None) head ++ turnings_from edges turns (suc number) rest
