-- Names with a value each, in the order of their declarations.
use Rattle.std.specs.Prelude.{ℕ, Bool, List, [], ◌∷◌, ◌++◌, map, Option, Some, None, is_some, if◌then◌else◌, bytes_eq}
use Rattle.std.specs.Borrow.{Bor}

-- the pairs of a map, by the bytes of the names
abbrev pub named : {V : Type 0} → List (Bor (List ℕ) × V) → List (List ℕ × V)
named [] = []
named (e ∷ es) = (e.0.now, e.1) ∷ named es

-- what a name stands for
abbrev pub found : {V : Type 0} → List ℕ → List (List ℕ × V) → Option V
found name [] = None
found name (e ∷ es) = if bytes_eq name e.0 then Some e.1 else found name es

-- the pairs with a name behind them, unless it is there
abbrev pub added : {V : Type 0} → List ℕ → V → List (List ℕ × V) → List (List ℕ × V)
added name value es = if is_some (found name es) then es else es ++ (name, value) ∷ []

-- the values in order
abbrev pub all_of : {V : Type 0} → List (List ℕ × V) → List V
all_of [] = []
all_of (e ∷ es) = e.1 ∷ all_of es
