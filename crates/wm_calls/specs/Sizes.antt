-- How many instances a call of each function leads to. A number past 2^32 - 1 counts as that.
use Rattle.std.specs.Prelude.{ℕ, ◌+◌, ◌-◌, ◌^◌, min, List, [], ◌∷◌, map, length, slice_index}
use Rattle.wm_scope.specs.declared.reading.CallPlace.{CallPlace}
use Rattle.wm_calls.specs.Repeated.{repeated}
use Rattle.wm_calls.specs.Rounds.{Calls}

abbrev pub size_at : List ℕ → ℕ → ℕ
size_at sizes function = slice_index sizes function

-- a sum that stays at the greatest number of 32 bits
abbrev pub plus : ℕ → ℕ → ℕ
plus a b = min (a + b) (2 ^ 32 - 1)

-- so many, and those of these calls
abbrev pub size_from : List ℕ → ℕ → List CallPlace → ℕ
size_from sizes size [] = size
size_from sizes size (place ∷ rest) = size_from sizes (plus size (size_at sizes place.function)) rest

-- the function itself, and what it calls
abbrev pub size_in : List ℕ → List CallPlace → ℕ
size_in sizes places = size_from sizes 1 places

unfoldable pub size_round : Calls → List ℕ → List ℕ
size_round calls sizes = map (size_in sizes) calls

unfoldable pub sizes_of : Calls → List ℕ
sizes_of calls = repeated (length calls) (size_round calls) []

-- ---- offsets

abbrev pub offsets_from : List ℕ → ℕ → List CallPlace → List ℕ
offsets_from sizes offset [] = []
offsets_from sizes offset (place ∷ rest) = offset ∷ offsets_from sizes (plus offset (size_at sizes place.function)) rest

abbrev pub offsets_in : List ℕ → List CallPlace → List ℕ
offsets_in sizes places = offsets_from sizes 1 places

unfoldable pub offsets_of : List ℕ → Calls → List (List ℕ)
offsets_of sizes calls = map (offsets_in sizes) calls
