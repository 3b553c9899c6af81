-- The laws.
use Rattle.std.specs.Prelude.{◌≡◌, ℕ, ◌<◌, List, [], length, Option, Some, None, slice_get}
use Rattle.std.specs.List.{All}
use Rattle.wm_program.specs.declared.program.InstanceInfo.{InstanceInfo}
use Rattle.wm_program.specs.WellFormed.{roots_among, root_count}
use Rattle.wm_scope.specs.declared.reading.CallPlace.{CallPlace}
use Rattle.wm_calls.specs.Sizes.{size_at, sizes_of}
use Rattle.wm_instances.specs.Instances.{root_instance}
use Rattle.wm_assemble.specs.Plans.{with_instance, first_number}

-- the instances of init, where there is one, and behind them those of the frame function
abbrev pub laid : List (List CallPlace) → Option ℕ → ℕ → List InstanceInfo
laid calls init root = with_instance calls (Some root) (with_instance calls init [])

abbrev pub frame_at : List (List CallPlace) → Option ℕ → ℕ
frame_at calls init = length (with_instance calls init [])

-- a function that has an instance
abbrev pub IsLaid : List (List CallPlace) → ℕ → Type 0
IsLaid calls function = 0 < size_at (sizes_of calls) function

abbrev pub IsLaidInit : List (List CallPlace) → Option ℕ → Type 0
IsLaidInit calls None = Unit {0}
IsLaidInit calls (Some init) = IsLaid calls init

-- init's and the frame function's are called by none, and they alone
abbrev pub RootsCount : Type 0
RootsCount =
    (calls : List (List CallPlace)) (init : Option ℕ) (root : ℕ) → IsLaidInit calls init → IsLaid calls root
    → roots_among (laid calls init root) ≡ root_count (first_number init)

abbrev pub FrameStands : Type 0
FrameStands =
    (calls : List (List CallPlace)) (init : Option ℕ) (root : ℕ) → IsLaid calls root
    → slice_get (laid calls init root) (frame_at calls init) ≡ Some (root_instance root)

-- init's stands first, and the frame function's behind it; without init that is first
abbrev pub StandsFirst : List (List CallPlace) → Option ℕ → ℕ → Type 0
StandsFirst calls None root = frame_at calls None ≡ 0
StandsFirst calls (Some init) root = (0 < frame_at calls (Some init)) × (slice_get (laid calls (Some init) root) 0 ≡ Some (root_instance init))

abbrev pub InitStands : Type 0
InitStands = (calls : List (List CallPlace)) (init : Option ℕ) (root : ℕ) → IsLaidInit calls init → StandsFirst calls init root

-- instances are of functions that are there
abbrev pub FunctionsThere : Type 0
FunctionsThere = (calls : List (List CallPlace)) (init : Option ℕ) (root : ℕ) → All (λ it. it.function < length calls) (laid calls init root)

-- each function that is there has an instance
abbrev pub LaidWhereThere : Type 0
LaidWhereThere = (calls : List (List CallPlace)) (function : ℕ) → function < length calls → IsLaid calls function
