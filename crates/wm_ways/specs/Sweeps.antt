-- The greatest weights of paths that end at a node or at some nodes, by the nodes at which they begin. The nodes of a table
-- are counted from its first one. Edges are taken from the last to the first, so that what is behind an edge is known.
use Rattle.std.specs.Prelude.{ℕ, ◌+◌, ◌-◌, Bool, if◌then◌else◌, List, [], ◌∷◌, replicate, take, drop, Option, Some, None, slice_set, slice_index_or}
use Rattle.wm_ways.specs.declared.ways.Way.{Way}
use Rattle.wm_ways.specs.Numbers.{along, greater}

abbrev pub best_at : (first : ℕ) → List (Option ℕ) → ℕ → Option ℕ
best_at first best node = slice_index_or best (node - first) None

-- what is known at the source of an edge, once the edge is known
abbrev pub onward : (first : ℕ) → List ℕ → Way → List (Option ℕ) → Option ℕ
onward first added way best =
    greater (best_at first best way.source) (along way.weight (slice_index_or added way.target 0) (best_at first best way.target))

-- a table with what an edge tells
unfoldable pub relaxed : (first : ℕ) → List ℕ → Way → List (Option ℕ) → List (Option ℕ)
relaxed first added way best =
    if way.open then slice_set best (way.source - first) (onward first added way best) else best

abbrev pub swept : (first : ℕ) → List ℕ → List Way → List (Option ℕ) → List (Option ℕ)
swept first added [] best = best
swept first added (way ∷ rest) best = relaxed first added way (swept first added rest best)

-- from a node to itself leads a path without an edge
unfoldable pub ending_at : (first last : ℕ) → List (Option ℕ)
ending_at first last = slice_set (replicate (last - first + 1) None) (last - first) (Some 0)

abbrev pub end_mark : Bool → Option ℕ
end_mark ends = if ends then Some 0 else None

abbrev pub ending_in : List Bool → List (Option ℕ)
ending_in [] = []
ending_in (ends ∷ rest) = end_mark ends ∷ ending_in rest

-- the edges from one number up to another
unfoldable pub stretch : List Way → (from to : ℕ) → List Way
stretch ways from to = take (to - from) (drop from ways)
