-- Paths by the numbers of their edges: the one that is picked is the first of those of the greatest weight.
use Rattle.std.specs.Prelude.{◌≡◌, ℕ, suc, ◌+◌, ◌-◌, ◌<◌, ◌≤◌, ◌⊎◌, true, List, [], ◌∷◌, length, Option, Some, slice_index_or}
use Rattle.wm_ways.specs.declared.ways.Way.{Way}
use Rattle.wm_ways.specs.Sweeps.{best_at, swept}
use Rattle.wm_path.specs.Picks.{picked}

-- A path leads from a node to another over open edges of a list, of which the first has the number `number`: these are the
-- numbers of its edges, and it weighs so much. It leaves out the first edge of the list, or begins with it.
abbrev pub Goes : (added : List ℕ) → (number : ℕ) → List Way → (from : ℕ) → (numbers : List ℕ) → (to weight : ℕ) → Type 0
Goes added number [] from numbers to weight = (from ≡ to) × (numbers ≡ []) × (weight ≡ 0)
Goes added number (way ∷ ways) from numbers to weight =
    Goes added (suc number) ways from numbers to weight
    ⊎ ((way.open ≡ true) × (from ≡ way.source) × ((behind : List ℕ) × (rest : ℕ) × Goes added (suc number) ways way.target behind to rest × (numbers ≡ number ∷ behind) × (weight ≡ way.weight + slice_index_or added way.target 0 + rest)))

-- The edges stand in the order of their sources, which are at least this number and lie in a table of so many nodes from the
-- first on. Open edges lead to higher nodes.
abbrev pub AreOrdered : (first count least : ℕ) → List Way → Type 0
AreOrdered first count least [] = Unit {0}
AreOrdered first count least (way ∷ ways) =
    (least ≤ way.source) × (way.source - first < count) × (way.open ≡ true → way.source < way.target)
    × AreOrdered first count way.source ways

-- a table of ends knows 0 at an end and nothing elsewhere
abbrev pub AreEnds : (first : ℕ) → List (Option ℕ) → Type 0
AreEnds first ending = (node known : ℕ) → best_at first ending node ≡ Some known → known ≡ 0

-- in the order of lists a list does not come after another
abbrev pub IsNotAfter : List ℕ → List ℕ → Type 0
IsNotAfter [] q = Unit {0}
IsNotAfter (n ∷ p) [] = ⊥
IsNotAfter (n ∷ p) (m ∷ q) = (n < m) ⊎ ((n ≡ m) × IsNotAfter p q)

-- the list is a path to an end of this weight, and of all such paths the first
pub record IsFirst (first : ℕ) (added : List ℕ) (ending : List (Option ℕ)) (number : ℕ) (ways : List Way) (from known : ℕ) (numbers : List ℕ) : Type 0 where
  pub to : ℕ
  pub goes : Goes added number ways from numbers to known
  pub ends : best_at first ending to ≡ Some 0
  pub before : (other : List ℕ) (end : ℕ) → Goes added number ways from other end known → best_at first ending end ≡ Some 0 → IsNotAfter numbers other

-- no path to an end weighs more
abbrev pub IsGreatest : (first : ℕ) → (added : List ℕ) → (ending : List (Option ℕ)) → (number : ℕ) → List Way → (from known : ℕ) → Type 0
IsGreatest first added ending number ways from known =
    (other : List ℕ) (end weight : ℕ) → Goes added number ways from other end weight → best_at first ending end ≡ Some 0 → weight ≤ known

-- Where some path leads to an end and its weight is at most 10^15.
abbrev pub PicksTheFirst : Type 0
PicksTheFirst =
    (first : ℕ) (added : List ℕ) (ways : List Way) (ending : List (Option ℕ)) (number from known : ℕ) →
    AreOrdered first (length ending) first ways → AreEnds first ending → first ≤ from →
    best_at first (swept first added ways ending) from ≡ Some known → known ≤ 1000000000000000 →
    IsGreatest first added ending number ways from known
    × IsFirst first added ending number ways from known (picked first added (swept first added ways ending) ending number from ways)
