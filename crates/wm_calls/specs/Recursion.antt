-- The first call whose function can reach its caller by calls.
use Rattle.std.specs.Prelude.{ℕ, suc, Bool, List, [], ◌∷◌, Option, Some, None, if◌then◌else◌}
use Rattle.wm_lang.specs.declared.place.Position.{Position}
use Rattle.wm_scope.specs.declared.reading.CallPlace.{CallPlace}
use Rattle.wm_calls.specs.Rounds.{Calls, is_marked, all_reaching}

abbrev pub first_marked : List Bool → List CallPlace → Option Position
first_marked marks [] = None
first_marked marks (place ∷ rest) = if is_marked marks place.function then Some place.at else first_marked marks rest

abbrev pub first_back : Calls → ℕ → List CallPlace → Option Position
first_back calls caller places = first_marked (all_reaching calls caller) places

-- this position, or else that one
abbrev pub or_else : Option Position → Option Position → Option Position
or_else None other = other
or_else (Some at) other = Some at

abbrev pub recursion_from : Calls → ℕ → List (List CallPlace) → Option Position
recursion_from calls caller [] = None
recursion_from calls caller (places ∷ rest) = or_else (first_back calls caller places) (recursion_from calls (suc caller) rest)

unfoldable pub recursion_of : Calls → Option Position
recursion_of calls = recursion_from calls 0 calls
