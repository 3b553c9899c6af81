-- The laws.
use Rattle.std.specs.Prelude.{◌≡◌, ℕ, suc, ◌+◌, ◌-◌, ◌^◌, ◌<◌, List, [], length, Some, slice_get}
use Rattle.std.specs.List.{All}
use Rattle.wm_program.specs.declared.program.InstanceInfo.{InstanceInfo}
use Rattle.wm_program.specs.WellFormed.{roots_among}
use Rattle.wm_scope.specs.declared.reading.CallPlace.{CallPlace}
use Rattle.wm_calls.specs.Repeated.{repeated}
use Rattle.wm_calls.specs.Sizes.{size_at, size_round, size_in, offsets_in}
use Rattle.wm_instances.specs.Instances.{root_instance, called, grown}

-- the sizes that so many rounds tell
abbrev pub sizes_after : ℕ → List (List CallPlace) → List ℕ
sizes_after depth calls = repeated depth (size_round calls) []

-- instances are only added
abbrev pub InstancesStay : Type 0
InstancesStay =
    (depth : ℕ) (calls : List (List CallPlace)) (info : InstanceInfo) (made : List InstanceInfo) (k : ℕ) (it : InstanceInfo)
    → slice_get made k ≡ Some it → slice_get (grown depth calls info made) k ≡ Some it

-- a function has as many instances, through calls so deep, as so many rounds tell, where these are fewer than can be told
abbrev pub SizesTold : Type 0
SizesTold =
    (depth : ℕ) (calls : List (List CallPlace)) (info : InstanceInfo) (made : List InstanceInfo)
    → size_at (sizes_after depth calls) info.function < 2 ^ 32 - 1
    → length (grown depth calls info made) ≡ length made + size_at (sizes_after depth calls) info.function

-- the instance of each call of a function stands as far behind that of the function as the call's offset tells, where the
-- function that is called has an instance through calls so deep
abbrev pub OffsetsTold : Type 0
OffsetsTold =
    (depth : ℕ) (calls : List (List CallPlace)) (info : InstanceInfo) (made : List InstanceInfo) (places : List CallPlace)
    → slice_get calls info.function ≡ Some places → size_in (sizes_after depth calls) places < 2 ^ 32 - 1
    → (j : ℕ) (place : CallPlace) (offset : ℕ) → slice_get places j ≡ Some place → slice_get (offsets_in (sizes_after depth calls) places) j ≡ Some offset
    → 0 < size_at (sizes_after depth calls) place.function
    → slice_get (grown (suc depth) calls info made) (length made + offset) ≡ Some (called (length made) info.roots place)

-- a function that has an instance has its own before those of its calls
abbrev pub InstancesBegin : Type 0
InstancesBegin =
    (depth : ℕ) (calls : List (List CallPlace)) (info : InstanceInfo) (made : List InstanceInfo)
    → 0 < size_at (sizes_after depth calls) info.function → slice_get (grown depth calls info made) (length made) ≡ Some info

-- instances are of functions that are there
abbrev pub InstancesOf : Type 0
InstancesOf =
    (depth : ℕ) (calls : List (List CallPlace)) (info : InstanceInfo) (made : List InstanceInfo)
    → All (λ it. it.function < length calls) made → All (λ it. it.function < length calls) (grown depth calls info made)

-- an instance that is called brings no other that nobody calls
abbrev pub RootsStay : Type 0
RootsStay =
    (depth : ℕ) (calls : List (List CallPlace)) (info : InstanceInfo) (caller : ℕ) → info.caller ≡ Some caller → (made : List InstanceInfo)
    → roots_among (grown depth calls info made) ≡ roots_among made

-- the instances of a function that nobody calls have one that nobody calls
abbrev pub RootsBegin : Type 0
RootsBegin =
    (depth : ℕ) (calls : List (List CallPlace)) (function : ℕ) (made : List InstanceInfo)
    → 0 < size_at (sizes_after depth calls) function → roots_among (grown depth calls (root_instance function) made) ≡ suc (roots_among made)
