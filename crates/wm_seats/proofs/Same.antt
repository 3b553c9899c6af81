-- The tables from the declared type are those of the program.
use Rattle.std.proofs.Common.{◌≡◌, ℕ, suc, List, [], ◌∷◌, map, refl, ap, sym, ◌∙◌}
use Rattle.wm_program.specs.declared.program.FunctionInfo.{FunctionInfo}
use Rattle.wm_program.specs.declared.program.LoopInfo.{LoopInfo}
use Rattle.wm_program.specs.declared.program.Program.{Program}
use Rattle.wm_program.specs.Code.{Routine, routine_of, code_of}
use Rattle.wm_flow.specs.Seats.{local_seats_from, local_counts_from, no_local_counts, loops_in, loop_counts, tables_of}
use Rattle.wm_seats.specs.Locals.{all_seats_in, all_counts_in, all_loops_in}
use Rattle.wm_seats.specs.Whole.{tables_with, tables_in}

seats_same : (functions : List FunctionInfo) → map (λ (routine : Routine). local_seats_from no_local_counts routine.locals) (map routine_of functions) ≡ all_seats_in functions
seats_same [] = refl
seats_same (function ∷ rest) = ap (λ seats. local_seats_from no_local_counts function.locals ∷ seats) (seats_same rest)

counts_same : (functions : List FunctionInfo) → map (λ (routine : Routine). local_counts_from no_local_counts routine.locals) (map routine_of functions) ≡ all_counts_in functions
counts_same [] = refl
counts_same (function ∷ rest) = ap (λ counts. local_counts_from no_local_counts function.locals ∷ counts) (counts_same rest)

loops_same : (functions : List FunctionInfo) (loops : List LoopInfo) (number : ℕ) → loop_counts (map routine_of functions) loops number ≡ all_loops_in functions loops number
loops_same [] loops number = refl
loops_same (function ∷ rest) loops number = ap (λ counts. loops_in loops number ∷ counts) (loops_same rest loops (suc number))

pub tables_same : (program : Program) → tables_in program ≡ tables_of (code_of program)
unfolding tables_in tables_of
tables_same program =
    sym (ap (λ locals. tables_with program locals (map (λ (routine : Routine). local_counts_from no_local_counts routine.locals) (map routine_of program.functions)) (loop_counts (map routine_of program.functions) program.loops 0)) (seats_same program.functions)
    ∙ (ap (λ counts. tables_with program (all_seats_in program.functions) counts (loop_counts (map routine_of program.functions) program.loops 0)) (counts_same program.functions)
    ∙ ap (λ loops. tables_with program (all_seats_in program.functions) (all_counts_in program.functions) loops) (loops_same program.functions program.loops 0)))
