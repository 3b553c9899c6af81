-- The locals of a function of a program.
use Rattle.std.proofs.Common.{◌≡◌, ℕ, zero, suc, List, [], ◌∷◌, map, Option, Some, None, refl}
use Rattle.std.specs.Prelude.{slice_get, slice_index_or}
use Rattle.wm_program.specs.declared.program.FunctionInfo.{FunctionInfo}
use Rattle.wm_program.specs.Code.{Routine, routine_of, no_routine}

pub routine_there : (functions : List FunctionInfo) (k : ℕ) (info : FunctionInfo) → slice_get functions k ≡ Some info → slice_index_or (map routine_of functions) k no_routine ≡ routine_of info
routine_there [] k info h = cc
routine_there (f ∷ fs) zero info h = cc
routine_there (f ∷ fs) (suc k) info h = routine_there fs k info h

pub routine_nowhere : (functions : List FunctionInfo) (k : ℕ) → slice_get functions k ≡ None → slice_index_or (map routine_of functions) k no_routine ≡ no_routine
routine_nowhere [] k h = refl
routine_nowhere (f ∷ fs) zero h = cc
routine_nowhere (f ∷ fs) (suc k) h = routine_nowhere fs k h
