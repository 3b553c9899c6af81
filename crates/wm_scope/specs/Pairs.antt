-- The entries of a hash table, as words with values.
use Rattle.std.specs.Prelude.{ℕ, List, [], ◌∷◌, Vec}

abbrev pub pairs : {A V : Type 0} → List (Vec ℕ A × V) → List (List ℕ × V)
pairs [] = []
pairs (e ∷ es) = (e.0.items, e.1) ∷ pairs es
