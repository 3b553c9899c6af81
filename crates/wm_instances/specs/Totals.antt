-- What is counted over all instances, and the different steps of loops. A number past 2^32 - 1 counts as that.
use Rattle.std.specs.Prelude.{ℕ, ◌+◌, ◌-◌, ◌^◌, min, Bool, true, false, if◌then◌else◌, ◌==◌, nat_le, List, [], ◌∷◌, ◌++◌, length, slice_get}
use Rattle.std.specs.Option.{option_map_or}
use Rattle.wm_program.specs.declared.program.FunctionInfo.{FunctionInfo}
use Rattle.wm_program.specs.declared.program.InstanceInfo.{InstanceInfo}
use Rattle.wm_program.specs.declared.program.LoopInfo.{LoopInfo}

-- a sum that stays at the greatest number of 32 bits
abbrev pub plus : ℕ → ℕ → ℕ
plus a b = min (a + b) (2 ^ 32 - 1)

-- so many, and one more for each loop of this function
abbrev pub loops_from : ℕ → ℕ → List LoopInfo → ℕ
loops_from count function [] = count
loops_from count function (one ∷ rest) =
    if one.function == function then loops_from (plus count 1) function rest else loops_from count function rest

abbrev pub heads_from : ℕ → List LoopInfo → List InstanceInfo → ℕ
heads_from count loops [] = count
heads_from count loops (instance ∷ rest) = heads_from (loops_from count instance.function loops) loops rest

-- the loop heads over all instances, and that of the frames
unfoldable pub heads_of : List LoopInfo → List InstanceInfo → ℕ
heads_of loops instances = heads_from 1 loops instances

abbrev pub tokens_of : List FunctionInfo → ℕ → ℕ
tokens_of functions function = option_map_or (λ it. it.tokens) (slice_get functions function) 0

abbrev pub size_from : ℕ → List FunctionInfo → List InstanceInfo → ℕ
size_from count functions [] = count
size_from count functions (instance ∷ rest) = size_from (plus count (tokens_of functions instance.function)) functions rest

-- the tokens of the bodies, added over all instances
unfoldable pub size_of : List FunctionInfo → List InstanceInfo → ℕ
size_of functions instances = size_from 0 functions instances

-- ---- steps

abbrev pub is_among : ℕ → List ℕ → Bool
is_among step [] = false
is_among step (other ∷ rest) = if other == step then true else is_among step rest

-- there are more than so many different steps, those that were seen counted
abbrev pub exceeds_from : ℕ → List ℕ → List LoopInfo → Bool
exceeds_from limit seen [] = false
exceeds_from limit seen (one ∷ rest) =
    if is_among one.step seen
    then exceeds_from limit seen rest
    else (if nat_le limit (length seen) then true else exceeds_from limit (seen ++ one.step ∷ []) rest)

unfoldable pub exceeds_steps : ℕ → List LoopInfo → Bool
exceeds_steps limit loops = exceeds_from limit [] loops
