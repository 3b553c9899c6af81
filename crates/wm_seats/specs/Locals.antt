-- What the tables of a program take from its functions.
use Rattle.std.specs.Prelude.{ℕ, suc, List, [], ◌∷◌}
use Rattle.wm_program.specs.declared.program.FunctionInfo.{FunctionInfo}
use Rattle.wm_program.specs.declared.program.LoopInfo.{LoopInfo}
use Rattle.wm_flow.specs.declared.seats.LocalSeat.{LocalSeat}
use Rattle.wm_flow.specs.declared.seats.LocalCounts.{LocalCounts}
use Rattle.wm_flow.specs.Seats.{local_seats_from, local_counts_from, no_local_counts, loops_in}

abbrev pub all_seats_in : List FunctionInfo → List (List LocalSeat)
all_seats_in [] = []
all_seats_in (function ∷ rest) = local_seats_from no_local_counts function.locals ∷ all_seats_in rest

abbrev pub all_counts_in : List FunctionInfo → List LocalCounts
all_counts_in [] = []
all_counts_in (function ∷ rest) = local_counts_from no_local_counts function.locals ∷ all_counts_in rest

-- how many loops each function has, the first being of this number
abbrev pub all_loops_in : List FunctionInfo → List LoopInfo → ℕ → List ℕ
all_loops_in [] loops number = []
all_loops_in (function ∷ rest) loops number = loops_in loops number ∷ all_loops_in rest loops (suc number)
