-- The sizes of instances, one after another from the last.
use Rattle.std.proofs.Common.{◌≡◌, ℕ, zero, suc, ◌+◌, ◌-◌, ◌<◌, List, [], ◌∷◌, ◌++◌, refl, ap, sym, ◌∙◌, arith}
use Rattle.std.specs.Prelude.{replicate, slice_set}
use Rattle.wm_program.specs.Code.{Code}
use Rattle.wm_flow.specs.declared.graph.Sum.{Sum}
use Rattle.wm_flow.specs.declared.seats.Tables.{Tables}
use Rattle.wm_flow.specs.Parts.{plan_with, part_size, sized}

replicate_more : (count x : ℕ) → replicate (suc count) x ≡ replicate count x ++ x ∷ []
replicate_more zero x = refl
replicate_more (suc count) x = ap (λ rest. x ∷ rest) (replicate_more count x)

pub zeros_step : (xs ys : List ℕ) (k : ℕ) → ys ≡ xs ++ 0 ∷ [] → xs ≡ replicate k 0 → ys ≡ replicate (k + 1) 0
zeros_step xs ys k hy h =
    let e : suc k ≡ k + 1 = omega arith in
    hy ∙ (ap (λ rest. rest ++ 0 ∷ []) h ∙ (sym (replicate_more k 0) ∙ ap (λ n. replicate n 0) e))

pub sized_next : (code : Code) (tables : Tables) (sums : List (List Sum)) (left : ℕ) (sizes : List ℕ) → 0 < left → sized code tables sums left sizes ≡ sized code tables sums (left - 1) (slice_set sizes (left - 1) (part_size (plan_with code tables sums sizes) (left - 1)))
sized_next code tables sums left sizes h =
    let e : left ≡ suc (left - 1) = omega arith in
    ap (λ n. sized code tables sums n sizes) e
