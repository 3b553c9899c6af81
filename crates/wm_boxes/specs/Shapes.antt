-- The shape of a box.
use Rattle.std.specs.Prelude.{ℕ, take, drop}
use Rattle.wm_domain.specs.declared.shape.Shape.{Shape}
use Rattle.wm_spans.specs.Spanned.{Spanned}

-- the first so many variables are those of the group
abbrev pub shape_at : ℕ → Spanned → Shape
shape_at g s = record { group = take g s.full; singles = drop g s.full; arrays = s.array_full }
