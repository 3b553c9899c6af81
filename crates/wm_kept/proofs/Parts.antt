-- The last of some pairs.
use Rattle.std.proofs.Common.{◌≡◌, ℕ, List, [], ◌∷◌, ◌++◌, length, Option, Some, None, refl, arith}
use Rattle.std.specs.Prelude.{◌==◌, if◌then◌else◌}
use Rattle.std.proofs.lemmas.Grind.{common_steps}
use Rattle.std.proofs.lemmas.Bool.Decides.{nat_tests}
use Rattle.wm_kept.specs.Pairs.{state_in, place_in}

pub state_in_push : {S : Type 0} (node : ℕ) (rest : List (ℕ × S)) (e : ℕ × S) → state_in node (rest ++ e ∷ []) ≡ (if e.0 == node then Some e.1 else state_in node rest)
state_in_push node [] e = refl
state_in_push node (x ∷ xs) e = grind (arith, nat_tests, common_steps, state_in_push node xs e)

pub place_in_push : {S : Type 0} (node : ℕ) (rest : List (ℕ × S)) (e : ℕ × S) → place_in node (rest ++ e ∷ []) ≡ (if e.0 == node then Some (length rest) else place_in node rest)
place_in_push node [] e = refl
place_in_push node (x ∷ xs) e = grind (arith, nat_tests, common_steps, place_in_push node xs e)
