-- What is left behind the last step is nothing.
use Rattle.std.proofs.Common.{◌≡◌, ℕ, ◌≤◌, ℤ, List, ◌++◌, length, drop, sym, ◌∙◌, ap}
use Rattle.std.proofs.lemmas.List.{append-nil, drop_all}
use Rattle.wm_grid.specs.Beside.{stepped}

pub stepped_all : (xs fs : List ℤ) (c : ℤ) (steps : List ℕ) (i : ℕ) → length steps ≤ i → xs ++ stepped c (drop i steps) ≡ fs ++ stepped c steps → xs ≡ fs ++ stepped c steps
stepped_all xs fs c steps i past h = sym (append-nil xs) ∙ sym (ap (λ rest. xs ++ stepped c rest) (drop_all i steps past)) ∙ h
