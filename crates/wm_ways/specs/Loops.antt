-- What the loops of a graph add to the paths that come to their heads.
use Rattle.std.specs.Prelude.{ℕ, suc, ◌*◌, List, [], ◌∷◌, length, replicate, Option, Some, None, slice_set, slice_index_or}
use Rattle.wm_ways.specs.declared.ways.Way.{Way}
use Rattle.wm_ways.specs.declared.ways.Turning.{Turning}
use Rattle.wm_ways.specs.Numbers.{cut, or_nought}
use Rattle.wm_ways.specs.Sweeps.{best_at, swept, ending_at, stretch}

-- the number of the first edge from each node, where the edges stand in the order of their sources
abbrev pub firsts_from : (number : ℕ) → List Way → List ℕ → List ℕ
firsts_from number [] firsts = firsts
firsts_from number (way ∷ rest) firsts = slice_set (firsts_from (suc number) rest firsts) way.source number

-- the loop of each node that is a head
abbrev pub marked : List Turning → List (Option Turning) → List (Option Turning)
marked [] marks = marks
marked (turning ∷ rest) marks = marked rest (slice_set marks turning.node (Some turning))

-- the greatest weight of a path from a head to the source of its back edge, and nothing where there is none
unfoldable pub body : List Way → (firsts added : List ℕ) → Turning → ℕ
body ways firsts added turning =
    or_nought (best_at turning.node (swept turning.node added (stretch ways (slice_index_or firsts turning.node 0) turning.back) (ending_at turning.node turning.last)) turning.node)

unfoldable pub with_turns : List Way → (firsts : List ℕ) → Option Turning → List ℕ → List ℕ
with_turns ways firsts None added = added
with_turns ways firsts (Some turning) added =
    slice_set added turning.node (cut (turning.turns * body ways firsts added turning))

-- heads are taken from the last to the first, so that what is added inside a loop is known
abbrev pub filled : List Way → (firsts : List ℕ) → List (Option Turning) → List ℕ → List ℕ
filled ways firsts [] added = added
filled ways firsts (mark ∷ rest) added = with_turns ways firsts mark (filled ways firsts rest added)
