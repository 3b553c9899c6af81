-- The edges of the first path, in the order of lists, among those of the greatest weight.
use Rattle.std.specs.Prelude.{ℕ, suc, Bool, false, ◌&&◌, if◌then◌else◌, ◌==◌, List, [], ◌∷◌, Option, Some, None, slice_index_or}
use Rattle.wm_ways.specs.declared.ways.Way.{Way}
use Rattle.wm_ways.specs.Numbers.{along}
use Rattle.wm_ways.specs.Sweeps.{best_at}

abbrev pub are_both : Option ℕ → Option ℕ → Bool
are_both None b = false
are_both (Some x) None = false
are_both (Some x) (Some y) = x == y

-- nothing is left to be picked where nothing more can be weighed
abbrev pub unless_nought : Option ℕ → Option ℕ
unless_nought None = None
unless_nought (Some weight) = if weight == 0 then None else Some weight

abbrev pub beyond : (ending known : Option ℕ) → Option ℕ
beyond None known = known
beyond (Some nought) known = unless_nought known

-- What the rest of the path weighs from a node on. At an end, which the table of ends knows, it goes no further where it would
-- weigh nothing more: of two lists of which one begins the other the shorter is the first.
abbrev pub sought : (first : ℕ) → (best ending : List (Option ℕ)) → (at : ℕ) → Option ℕ
sought first best ending at = beyond (best_at first ending at) (best_at first best at)

-- whether a path of that weight may begin with the edge
abbrev pub attains : (first : ℕ) → (added : List ℕ) → (best ending : List (Option ℕ)) → (at : ℕ) → Way → Bool
attains first added best ending at way =
    are_both (sought first best ending at) (along way.weight (slice_index_or added way.target 0) (best_at first best way.target))

abbrev pub takes : (first : ℕ) → (added : List ℕ) → (best ending : List (Option ℕ)) → (at : ℕ) → Way → Bool
takes first added best ending at way = way.open && (way.source == at && attains first added best ending at way)

-- The numbers of the edges that are picked from a node on, of edges that stand in the order of their sources and at one source
-- of their targets: at each node the first that attains the greatest weight. The first edge of the list has this number.
abbrev pub picked : (first : ℕ) → (added : List ℕ) → (best ending : List (Option ℕ)) → (number at : ℕ) → List Way → List ℕ
picked first added best ending number at [] = []
picked first added best ending number at (way ∷ rest) =
    if takes first added best ending at way
    then number ∷ picked first added best ending (suc number) way.target rest
    else picked first added best ending (suc number) at rest
