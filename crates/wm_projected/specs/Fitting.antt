-- What is kept of the points where picked variables are to fit other full ranges.
use Rattle.std.specs.Prelude.{ℕ, ◌≡◌, ◌<◌, List, length, slice_index_or, Option, None, Some}
use Rattle.wm_interval.specs.declared.Interval.{Interval}
use Rattle.wm_domain.specs.Points.{Point}
use Rattle.wm_domain.specs.Changes.{Projected}
use Rattle.wm_tied.specs.Pointed.{TiedView, In, InFull}
use Rattle.wm_tied.specs.Leaving.{IsAlike}
use Rattle.wm_tied.specs.Projecting.{ArePicked}

-- c has points of s alone; at each the picked variables lie in the full ranges for their places; and each picked point within
-- those ranges is one of c
pub record IsFitted (s c : TiedView) (group singles : List Interval) (picks : List (Option ℕ)) : Type 0 where
  pub alike : IsAlike s c
  pub fewer : (p : Point) → In c p → In s p
  pub group_lies : (p : Point) → In c p → ArePicked (In c) group picks 0 (length group) p
  pub singles_lie : (p : Point) → In c p → ArePicked (In c) singles picks (length group) (length singles) p
  pub picked : (t : TiedView) (arrays : List (Option ℕ)) → t.group ≡ group → t.spans.full ≡ singles → (p : Point) → InFull t p → Projected (In s) picks arrays p → Projected (In c) picks arrays p

-- each place is picked for itself
abbrev pub AreOwn : List (Option ℕ) → Type 0
AreOwn picks = (k : ℕ) → k < length picks → slice_index_or picks k None ≡ Some k

-- the full ranges are those of the state
pub record IsWhole (t : TiedView) (group singles arrays : List Interval) : Type 0 where
  pub same_group : t.group ≡ group
  pub same_full : t.spans.full ≡ singles
  pub same_arrays : t.spans.array_full ≡ arrays

-- every variable and every array stays at its place
pub record IsIdentity (t : TiedView) (group singles arrays : List Interval) (picks array_picks : List (Option ℕ)) : Type 0 where
  pub whole : IsWhole t group singles arrays
  pub variables : AreOwn picks
  pub cells : AreOwn array_picks
