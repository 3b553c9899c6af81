-- Points that a call leaves, and what it means that exactly these are left.
use Rattle.std.specs.Prelude.{ℕ, ◌≡◌, ◌≢◌, ◌<◌, ◌⊎◌, ◌≤ℤ◌, ◌↔◌, ℤ, pos, false, List, length, slice_index_or, Option, Some, None}
use Rattle.std.specs.Int.{int_max, int_min}
use Rattle.wm_interval.specs.declared.Interval.{Interval}
use Rattle.wm_interval.specs.Holds.{Holds}
use Rattle.wm_arrays.specs.declared.summary.Summary.{Summary}
use Rattle.wm_arrays.specs.declared.summary.Summary.TheVariants.{Empty, Range}
use Rattle.wm_arrays.specs.Meaning.{Allows, IsIncluded, IsEither, IsLeastFor}
use Rattle.wm_domain.specs.declared.form.Term.{Term}
use Rattle.wm_domain.specs.Points.{Point, range_at, IsInside, SameButCell}
use Rattle.wm_domain.specs.declared.form.Relation.{Relation}
use Rattle.wm_domain.specs.declared.form.Relation.TheVariants.{AtMost, Equal, NotEqual}
use Rattle.wm_domain.specs.Forms.{term_value, terms_value}
use Rattle.wm_domain.specs.Terms.{NearTerm}
use Rattle.wm_domain.specs.States.{IsReached, IsCellTold}
use Rattle.wm_spans.specs.Spanned.{Spanned, cell_at, Lies, CellsLie, Kept, In}

-- the points are those within the full ranges that P tells
pub record Exactly (s : Spanned) (P : Point → Type 0) : Type 0 where
  pub made : (p : Point) → In s p → P p
  pub kept : (p : Point) → IsInside s.full s.array_full p → P p → In s p

-- none of so many arrays has a set cell
abbrev pub IsBlank : ℕ → Point → Type 0
IsBlank n p = (a : ℕ) → a < n → p.cells a ≡ None

-- a point at which variable v lies in r
pub record Bounded (Has : Point → Type 0) (v : ℕ) (r : Interval) (p : Point) : Type 0 where
  pub point : Has p
  pub bounded : Holds r (p.values v)

-- what the summary of a picked array allows; nothing is set where none is picked
abbrev pub IsDrawn : (ℕ → Summary) → Option ℕ → Option ℤ → Type 0
IsDrawn old None cell = cell ≡ None
IsDrawn old (Some a) None = Unit {0}
IsDrawn old (Some a) (Some z) = Allows (old a) z

-- each cell is unset, or one that the summary of its picked array allows
pub record AreDrawn (old : ℕ → Summary) (arrays : List (Option ℕ)) (n : ℕ) (p : Point) : Type 0 where
  pub cells : (a : ℕ) → a < n → IsDrawn old (slice_index_or arrays a None) (p.cells a)

-- two points that P tells, which differ from p in the cell of array a alone, have set cells there around z
pub record IsBetween (P : Point → Type 0) (a : ℕ) (p : Point) (z : ℤ) : Type 0 where
  pub x : Point
  pub y : Point
  pub x_is : P x
  pub y_is : P y
  pub x_same : SameButCell a p x
  pub y_same : SameButCell a p y
  pub low : ℤ
  pub high : ℤ
  pub x_cell : x.cells a ≡ Some low
  pub y_cell : y.cells a ≡ Some high
  pub above : low ≤ℤ z
  pub below : z ≤ℤ high

abbrev pub IsBetweenCell : (Point → Type 0) → ℕ → Point → Option ℤ → Type 0
IsBetweenCell P a p None = Unit {0}
IsBetweenCell P a p (Some z) = IsBetween P a p z

-- a point that P tells differs from p in the cell of array a alone, and a set cell of p lies between those of such points
pub record IsNearCell (P : Point → Type 0) (a : ℕ) (p : Point) : Type 0 where
  pub some : Point
  pub some_is : P some
  pub same : SameButCell a p some
  pub cell : IsBetweenCell P a p (p.cells a)

-- there is such a point, and each number and each set cell lies between those of such points
pub record IsSpanned (n m : ℕ) (P : Point → Type 0) (p : Point) : Type 0 where
  pub some : Point
  pub some_is : P some
  pub each : (t : Term) → t.variable < n → IsReached P (λ x. term_value x t) p
  pub cells : (a : ℕ) → a < m → IsCellTold P a (p.cells a)

-- the ends of r are the lesser and the greater of those of two
pub record IsJoined (a b r : Interval) : Type 0 where
  pub low : r.low ≡ int_min a.low b.low
  pub high : r.high ≡ int_max a.high b.high

-- each range and each summary is the least that holds two
pub record IsRaised (s t u : Spanned) : Type 0 where
  pub full : u.full ≡ s.full
  pub array_full : u.array_full ≡ s.array_full
  pub empty : u.empty ≡ s.empty
  pub kept : Kept u
  pub ranges : (v : ℕ) → v < length s.full → IsJoined (range_at s.ranges v) (range_at t.ranges v) (range_at u.ranges v)
  pub summaries : (a : ℕ) → a < length s.array_full → IsLeastFor (IsEither (cell_at s.cells a) (cell_at t.cells a)) (cell_at u.cells a)

-- each range lies in the other, and each summary allows no more
pub record IsBelow (s t : Spanned) : Type 0 where
  pub ranges : (v : ℕ) → v < length s.full → Lies (range_at t.ranges v) (range_at s.ranges v)
  pub summaries : (a : ℕ) → a < length s.array_full → IsIncluded (cell_at s.cells a) (cell_at t.cells a)

-- a summary that allows what that of a picked array does of a full range; an empty one where none is picked
abbrev pub IsFitted : Summary → Interval → Summary → Type 0
IsFitted s full t = CellsLie full t × ((z : ℤ) → Allows t z ↔ (Allows s z × Holds full z))

abbrev pub IsDrawnAt : (ℕ → Summary) → Option ℕ → Interval → Summary → Type 0
IsDrawnAt old None full t = t ≡ Empty
IsDrawnAt old (Some a) full t = IsFitted (old a) full t

-- a point within the full ranges at which variable v has a number of r that differs from the term by a number of d
pub record NearIn (s : Spanned) (v : ℕ) (t : Term) (d r : Interval) (p : Point) : Type 0 where
  pub near : NearTerm (In s) v t d r p
  pub inside : IsInside s.full s.array_full p

-- a point within the full ranges that P tells
pub record Inside (s : Spanned) (P : Point → Type 0) (p : Point) : Type 0 where
  pub is : P p
  pub inside : IsInside s.full s.array_full p

-- t has the full ranges of s; it keeps the points within them that P tells, and each of its points lies between such
pub record Leaves (s t : Spanned) (P : Point → Type 0) : Type 0 where
  pub full : t.full ≡ s.full
  pub array_full : t.array_full ≡ s.array_full
  pub kept : (p : Point) → IsInside s.full s.array_full p → P p → In t p
  pub spanned : (p : Point) → In t p → IsSpanned (length s.full) (length s.array_full) (Inside s P) p

-- z is the sum of the terms at a point
pub record IsSumValue (Has : Point → Type 0) (ts : List Term) (z : ℤ) : Type 0 where
  pub x : Point
  pub is : Has x
  pub gives : terms_value x.values ts ≡ z

-- what a relation asks of a value of a form whose values have these ends
abbrev pub MeetsIn : Interval → Relation → ℤ → Type 0
MeetsIn values AtMost y = y ≤ℤ pos 0
MeetsIn values Equal y = y ≡ pos 0
MeetsIn values NotEqual y = (pos 0 ≤ℤ values.low) ⊎ (values.high ≤ℤ pos 0) → y ≢ pos 0

-- a point, where the older ones have a point too, at which each variable with a pick among the first n lies in the range of
-- the picked variable
pub record AreCut (Has : Point → Type 0) (was : Spanned) (picks : List (Option ℕ)) (n : ℕ) (p : Point) : Type 0 where
  pub some : was.empty ≡ false
  pub point : Has p
  pub numbers : (k v : ℕ) → k < n → slice_index_or picks k None ≡ Some v → Holds (range_at was.ranges v) (p.values k)

-- a point at which variable k lies in the range of the variable that is picked, if one is
pub record IsCutAt (Has : Point → Type 0) (was : Spanned) (k : ℕ) (pick : Option ℕ) (p : Point) : Type 0 where
  pub point : Has p
  pub number : (v : ℕ) → pick ≡ Some v → Holds (range_at was.ranges v) (p.values k)
