-- Shapes whose groups, singles and arrays are paired each by place.
use Rattle.std.specs.Prelude.{ℕ, zero, suc, ◌≡◌, ◌<◌, List, [], ◌∷◌, ◌++◌, length, Option, Some, None}
use Rattle.wm_domain.specs.Points.{Point, range_at}
use Rattle.wm_domain.specs.Changes.{Projected}
use Rattle.wm_domain.specs.declared.shape.Shape.{Shape}

-- n places: the first `count` of them pick what is numbered from `first` on, one after the other, and the rest pick nothing
unfoldable pub placed : (first count n : ℕ) → List (Option ℕ)
placed first count zero = []
placed first zero (suc n) = None ∷ placed first zero n
placed first (suc count) (suc n) = Some first ∷ placed (suc first) count n

-- the places of a new group and of new singles, which pick from a group and from singles
unfoldable pub places_of : (group singles new_group new_singles : ℕ) → List (Option ℕ)
places_of group singles new_group new_singles = placed 0 group new_group ++ placed group singles new_singles

abbrev pub places : Shape → Shape → List (Option ℕ)
places source target = places_of (length source.group) (length source.singles) (length target.group) (length target.singles)

abbrev pub array_places : Shape → Shape → List (Option ℕ)
array_places source target = placed 0 (length source.arrays) (length target.arrays)

-- what is paired has one full range
pub record ArePaired (source target : Shape) : Type 0 where
  pub group : (v : ℕ) → v < length source.group → v < length target.group → range_at target.group v ≡ range_at source.group v
  pub singles : (v : ℕ) → v < length source.singles → v < length target.singles → range_at target.singles v ≡ range_at source.singles v
  pub arrays : (a : ℕ) → a < length source.arrays → a < length target.arrays → range_at target.arrays a ≡ range_at source.arrays a

-- a point of the target has what is paired with a variable or an array of the source from a point there
abbrev pub Followed : (source target : Shape) → (Point → Type 0) → Point → Type 0
Followed source target Has = Projected Has (places source target) (array_places source target)
