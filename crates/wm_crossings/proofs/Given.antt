-- Where no argument is left.
use Rattle.std.proofs.Common.{◌≡◌, ℕ, List, [], ◌∷◌, length, refl, arith}
use Rattle.wm_flow.specs.declared.kept.Kept.{Kept}
use Rattle.wm_flow.specs.declared.scene.Bases.{Bases}
use Rattle.wm_flow.specs.declared.seats.LocalSeat.{LocalSeat}
use Rattle.wm_flow.specs.Calls.{arguments_from}

pub none_given : (bases : Bases) (seats : List LocalSeat) (values : List Kept) (temporaries : ℕ) → length values ≡ 0 → arguments_from bases seats values temporaries ≡ []
none_given bases [] values temporaries h = refl
none_given bases (seat ∷ seats) [] temporaries h = refl
none_given bases (seat ∷ seats) (value ∷ values) temporaries h = absurd (omega arith)
