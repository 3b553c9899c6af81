-- The different steps of a program's loops, in the order of their first loops.
use Rattle.std.specs.Prelude.{ℕ, List, [], ◌∷◌, ◌++◌, ◌==◌, if◌then◌else◌}
use Rattle.std.specs.List.{list_any}
use Rattle.wm_program.specs.declared.program.LoopInfo.{LoopInfo}

abbrev pub with_step : List ℕ → ℕ → List ℕ
with_step steps s = if list_any (λ y. y == s) steps then steps else steps ++ s ∷ []

abbrev pub steps_from : List ℕ → List LoopInfo → List ℕ
steps_from steps [] = steps
steps_from steps (info ∷ loops) = steps_from (with_step steps info.step) loops
