-- What ties beside ranges and summaries are seen as, and their points.
use Rattle.std.specs.Prelude.{ℕ, ◌≡◌, ◌<◌, ◌≤◌, ◌+◌, ℤ, List, ◌++◌, length}
use Rattle.wm_interval.specs.declared.Interval.{Interval}
use Rattle.wm_domain.specs.Points.{Point, range_at, IsNarrow, IsInside}
use Rattle.wm_domain.specs.declared.shape.Shape.{Shape}
use Rattle.wm_octagon.specs.View.{OctagonView, Holds}
use Rattle.wm_ties.specs.Exact.{AreInside}
use Rattle.wm_spans.specs.Spanned.{Spanned}
use Rattle.wm_spans.specs.Spanned as spanned

-- the full ranges of the group, the ties between its variables, and the ranges and summaries of all else
pub record TiedView : Type 0 where
  pub group : List Interval
  pub ties : OctagonView
  pub spans : Spanned

-- the point of the variables past the group
abbrev pub shifted : ℕ → Point → Point
shifted n p = record { values = λ v. p.values (n + v); cells = p.cells }

-- the ties are those of a group of at most 32 variables of 32 bits, and their points lie in its full ranges
pub record IsTied (group : List Interval) (o : OctagonView) : Type 0 where
  pub counted : o.variables ≡ length group
  pub few : length group ≤ 32
  pub narrow : (v : ℕ) → v < length group → IsNarrow (range_at group v)
  pub inside : (x : ℕ → ℤ) → Holds o x → AreInside group x

-- the numbers of the group are a point of the ties, and all else is one of the ranges and summaries
pub record In (t : TiedView) (p : Point) : Type 0 where
  pub tied : IsTied t.group t.ties
  pub ties : Holds t.ties p.values
  pub spans : spanned.In t.spans (shifted (length t.group) p)

-- there is a point
pub record HasPoint (t : TiedView) : Type 0 where
  pub point : Point
  pub is : In t point

-- the variables are those of the group, then the others
abbrev pub shape_of : TiedView → Shape
shape_of t = record { group = t.group; singles = t.spans.full; arrays = t.spans.array_full }

-- the point lies in the full ranges
abbrev pub InFull : TiedView → Point → Type 0
InFull t p = IsInside (t.group ++ t.spans.full) t.spans.array_full p
