-- The greatest weight of a path from a node to one of the ends.
use Rattle.std.specs.Prelude.{ℕ, Bool, List, length, replicate, drop, Option, None, slice_index_or}
use Rattle.wm_ways.specs.declared.ways.Way.{Way}
use Rattle.wm_ways.specs.declared.ways.Turning.{Turning}
use Rattle.wm_ways.specs.Numbers.{or_nought}
use Rattle.wm_ways.specs.Sweeps.{best_at, swept, ending_in}
use Rattle.wm_ways.specs.Loops.{firsts_from, marked, filled}

unfoldable pub firsts_of : List Way → (nodes : ℕ) → List ℕ
firsts_of ways nodes = firsts_from 0 ways (replicate nodes (length ways))

unfoldable pub marks_of : List Turning → (nodes : ℕ) → List (Option Turning)
marks_of turnings nodes = marked turnings (replicate nodes None)

-- what is added at each node
unfoldable pub added_of : List Way → List ℕ → List (Option Turning) → (nodes : ℕ) → List ℕ
added_of ways firsts marks nodes = filled ways firsts marks (replicate nodes 0)

unfoldable pub onwards : List Way → (firsts added : List ℕ) → List Bool → (start : ℕ) → ℕ
onwards ways firsts added ends start =
    or_nought (best_at start (swept start added (drop (slice_index_or firsts start 0) ways) (ending_in (drop start ends))) start)

abbrev pub from_firsts : List Way → List ℕ → List Turning → List Bool → (start : ℕ) → ℕ
from_firsts ways firsts turnings ends start =
    onwards ways firsts (added_of ways firsts (marks_of turnings (length ends)) (length ends)) ends start

-- There is an end mark for each node.
unfoldable pub greatest_weight : List Way → List Turning → List Bool → (start : ℕ) → ℕ
greatest_weight ways turnings ends start = from_firsts ways (firsts_of ways (length ends)) turnings ends start
