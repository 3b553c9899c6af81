-- Paths, and that none weighs more than what a table knows once the edges are taken.
use Rattle.std.specs.Prelude.{◌≡◌, ℕ, ◌+◌, ◌-◌, ◌<◌, ◌≤◌, ◌⊎◌, true, List, [], ◌∷◌, length, Option, Some, None, slice_index_or}
use Rattle.wm_ways.specs.declared.ways.Way.{Way}
use Rattle.wm_ways.specs.Numbers.{cut}
use Rattle.wm_ways.specs.Sweeps.{best_at, swept}

-- A path leads from a node to another over open edges of a list, in their order, and weighs so much: the weights of its
-- edges, and what is added at the nodes to which they lead. It ends where it begins, or leaves out the first edge, or begins
-- with it.
abbrev pub Leads : (added : List ℕ) → List Way → (from to weight : ℕ) → Type 0
Leads added [] from to weight = (from ≡ to) × (weight ≡ 0)
Leads added (way ∷ ways) from to weight =
    Leads added ways from to weight ⊎ ((way.open ≡ true) × (from ≡ way.source) × ((rest : ℕ) × Leads added ways way.target to rest × (weight ≡ way.weight + slice_index_or added way.target 0 + rest)))

-- the sources of the edges stand in the table
abbrev pub AreInside : (first count : ℕ) → List Way → Type 0
AreInside first count [] = Unit {0}
AreInside first count (way ∷ ways) = (way.source - first < count) × AreInside first count ways

abbrev pub IsAtLeast : ℕ → Option ℕ → Type 0
IsAtLeast n None = ⊥
IsAtLeast n (Some weight) = n ≤ weight

-- What is known at the beginning of a path is at least the weight of the path and of what is known at its end, cut as all
-- weights are.
abbrev pub NoPathWeighsMore : Type 0
NoPathWeighsMore =
    (first : ℕ) (added : List ℕ) (ways : List Way) (best : List (Option ℕ)) (from to weight known : ℕ) →
    AreInside first (length best) ways → Leads added ways from to weight → best_at first best to ≡ Some known →
    IsAtLeast (cut (weight + known)) (best_at first (swept first added ways best) from)
