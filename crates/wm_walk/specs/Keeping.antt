-- Pairs of which some are given up.
use Rattle.std.specs.Prelude.{ℕ, List, [], ◌∷◌}
use Rattle.wm_kept.specs.Pairs.{without}

abbrev pub without_all : {S : Type 0} → List ℕ → List (ℕ × S) → List (ℕ × S)
without_all [] pairs = pairs
without_all (node ∷ rest) pairs = without_all rest (without node pairs)
