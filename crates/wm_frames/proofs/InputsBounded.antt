-- Inputs with their ranges.
use Rattle.std.proofs.Common.{◌≡◌, List, [], ◌∷◌, ◌++◌, map, refl, ap}
use Rattle.wm_flow.specs.declared.action.Given.{Given}
use Rattle.wm_flow.specs.Views.{bounded_of}

pub one_bounded : (xs : List Given) (x : Given) → map bounded_of (xs ++ x ∷ []) ≡ map bounded_of xs ++ bounded_of x ∷ []
one_bounded [] x = refl
one_bounded (y ∷ ys) x = ap (λ rest. bounded_of y ∷ rest) (one_bounded ys x)
