-- Ranges that are the same by place, and picks that name one place after another.
use Rattle.std.specs.Prelude.{ℕ, suc, ◌≡◌, ◌<◌, ◌≤◌, List, [], ◌∷◌, Option, Some, None}
use Rattle.wm_interval.specs.declared.Interval.{Interval}

-- as far as there are some in both lists
abbrev pub ArePaired : List Interval → List Interval → Type 0
ArePaired [] right = Unit {0}
ArePaired (here ∷ left) [] = Unit {0}
ArePaired (here ∷ left) (there ∷ right) = (here ≡ there) × ArePaired left right

-- each pick is one of so many, from a first one on, and greater than those before
abbrev pub AreRising : (first count : ℕ) → List (Option ℕ) → Type 0
AreRising first count [] = Unit {0}
AreRising first count (None ∷ rest) = AreRising first count rest
AreRising first count (Some v ∷ rest) = (first ≤ v) × (v < count) × AreRising (suc v) count rest
