-- Lists of which the first places are taken from older ones.
use Rattle.std.specs.Prelude.{ℕ, ◌≡◌, List, [], ◌∷◌, take, drop, Option, Some, None}
use Rattle.wm_interval.specs.declared.Interval.{Interval}
use Rattle.wm_domain.specs.declared.shape.Shape.{Shape}
use Rattle.wm_domain.specs.Points.{range_at}
use Rattle.wm_spans.specs.Spanned.{Spanned}

-- the second list, with what the first has at its places
unfoldable pub over : {A : Type 0} → List A → List A → List A
over [] ys = ys
over (x ∷ xs) [] = []
over (x ∷ xs) (y ∷ ys) = x ∷ over xs ys

-- the shape whose group is the first so many variables
abbrev pub parted : ℕ → Spanned → Shape
parted count s = record { group = take count s.full; singles = drop count s.full; arrays = s.array_full }

abbrev pub shape_of : (group singles arrays : List Interval) → Shape
shape_of group singles arrays = record { group = group; singles = singles; arrays = arrays }

-- the older range of the picked variable; the full one where none is picked
abbrev pub IsTakenRange : List Interval → Option ℕ → Interval → Interval → Type 0
IsTakenRange old None full r = r ≡ full
IsTakenRange old (Some v) full r = r ≡ range_at old v
