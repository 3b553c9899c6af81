-- What rounds over all functions find. The functions are numbered by their places in the list, which has the calls of
-- each. After n rounds a mark tells of chains of calls through at most n functions; a chain that goes through none twice
-- goes through no more than there are.
use Rattle.std.specs.Prelude.{ℕ, Bool, true, false, List, [], map, length, slice_index_or, slice_set}
use Rattle.std.specs.List.{list_all, list_any}
use Rattle.wm_scope.specs.declared.reading.CallPlace.{CallPlace}
use Rattle.wm_calls.specs.Repeated.{repeated}

abbrev pub Calls : Type 0
Calls = List (List CallPlace)

-- a function that is not there is not marked
abbrev pub is_marked : List Bool → ℕ → Bool
is_marked marks function = slice_index_or marks function false

abbrev pub all_marked : List Bool → List CallPlace → Bool
all_marked marks places = list_all (λ place. is_marked marks place.function) places

abbrev pub any_marked : List Bool → List CallPlace → Bool
any_marked marks places = list_any (λ place. is_marked marks place.function) places

-- a function ends where all that it calls end
unfoldable pub ends_round : Calls → List Bool → List Bool
ends_round calls marks = map (all_marked marks) calls

-- a function reaches another where it is this, or calls one that reaches it
unfoldable pub reach_round : Calls → ℕ → List Bool → List Bool
reach_round calls to marks = slice_set (map (any_marked marks) calls) to true

-- the functions from which each chain of calls ends
unfoldable pub all_ending : Calls → List Bool
all_ending calls = repeated (length calls) (ends_round calls) []

-- the functions that can reach this one by calls, itself among them
unfoldable pub all_reaching : Calls → ℕ → List Bool
all_reaching calls to = repeated (length calls) (reach_round calls to) []
