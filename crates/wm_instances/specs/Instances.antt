-- The instances, depth first, calls in the order of the source. An instance has the number of those before it.
use Rattle.std.specs.Prelude.{ℕ, zero, suc, List, [], ◌∷◌, ◌++◌, length, map, Some, None, slice_get}
use Rattle.std.specs.Option.{option_map_or}
use Rattle.wm_program.specs.declared.program.InstanceInfo.{InstanceInfo}
use Rattle.wm_program.specs.declared.program.Root.{Root}
use Rattle.wm_program.specs.declared.tree.Array.{Array}
use Rattle.wm_program.specs.State.{Here, root_of}
use Rattle.wm_scope.specs.declared.reading.CallPlace.{CallPlace}

-- the instance of a function that nobody calls
abbrev pub root_instance : ℕ → InstanceInfo
root_instance function = record { function = function; caller = None; call = None; roots = [] }

abbrev pub here_in : ℕ → List Root → Here
here_in number roots = record { instance = number; roots = roots }

-- what the views of a call look into
abbrev pub views_in : ℕ → List Root → List Array → List Root
views_in number roots views = map (root_of (here_in number roots)) views

-- the instance that a call leads to from the instance of this number, whose views look into these roots
abbrev pub called : ℕ → List Root → CallPlace → InstanceInfo
called number roots place =
    record { function = place.function; caller = Some number; call = Some place.at.place; roots = views_in number roots place.views }

-- what each call adds, one after the other
abbrev pub grown_each : (CallPlace → List InstanceInfo → List InstanceInfo) → List CallPlace → List InstanceInfo → List InstanceInfo
grown_each step [] made = made
grown_each step (place ∷ rest) made = grown_each step rest (step place made)

-- with an instance and all that it leads to at the end, through calls at most so deep; a function that is not there has no
-- instance
unfoldable pub grown : ℕ → List (List CallPlace) → InstanceInfo → List InstanceInfo → List InstanceInfo
grown zero calls info made = made
grown (suc depth) calls info made =
    option_map_or (λ places. grown_each (λ place. grown depth calls (called (length made) info.roots place)) places (made ++ info ∷ [])) (slice_get calls info.function) made

-- what one call of the instance of this number adds
unfoldable pub grown_by : ℕ → List (List CallPlace) → ℕ → List Root → CallPlace → List InstanceInfo → List InstanceInfo
grown_by depth calls number roots place made = grown depth calls (called number roots place) made
