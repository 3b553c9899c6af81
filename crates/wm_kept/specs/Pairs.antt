-- Pairs of a node and its state. What was put last is mostly asked for first, so a node has the state of its last pair.
use Rattle.std.specs.Prelude.{ℕ, suc, if◌then◌else◌, ◌==◌, List, [], ◌∷◌, Option, Some, None}
use Rattle.std.specs.List.{remove}

module _ {S : Type 0} where
  abbrev pub or_here : ℕ → (ℕ × S) → Option S → Option S
  or_here node e (Some s) = Some s
  or_here node e None = if e.0 == node then Some e.1 else None

  -- the state of a node
  abbrev pub state_in : ℕ → List (ℕ × S) → Option S
  state_in node [] = None
  state_in node (e ∷ rest) = or_here node e (state_in node rest)

  abbrev pub or_first : ℕ → (ℕ × S) → Option ℕ → Option ℕ
  or_first node e (Some k) = Some (suc k)
  or_first node e None = if e.0 == node then Some 0 else None

  -- where that pair stands
  abbrev pub place_in : ℕ → List (ℕ × S) → Option ℕ
  place_in node [] = None
  place_in node (e ∷ rest) = or_first node e (place_in node rest)

  abbrev pub without_place : Option ℕ → List (ℕ × S) → List (ℕ × S)
  without_place None pairs = pairs
  without_place (Some place) pairs = remove pairs place

  -- all but that pair
  unfoldable pub without : ℕ → List (ℕ × S) → List (ℕ × S)
  without node pairs = without_place (place_in node pairs) pairs
