-- What a call leaves of the points.
use Rattle.std.specs.Prelude.{ℕ, ◌≡◌, true}
use Rattle.wm_interval.specs.declared.Interval.{Interval}
use Rattle.wm_domain.specs.Points.{Point}
use Rattle.wm_domain.specs.States.{IsTold}
use Rattle.wm_tied.specs.Pointed.{TiedView, In, InFull, shape_of}

-- the full ranges are the same
pub record IsAlike (s t : TiedView) : Type 0 where
  pub group : t.group ≡ s.group
  pub full : t.spans.full ≡ s.spans.full
  pub array_full : t.spans.array_full ≡ s.spans.array_full

-- the points are those within the full ranges that P tells
pub record IsExactly (t : TiedView) (P : Point → Type 0) : Type 0 where
  pub made : (p : Point) → In t p → P p
  pub kept : (p : Point) → InFull t p → P p → In t p

-- a point within the full ranges that P tells
pub record Inside (t : TiedView) (P : Point → Type 0) (p : Point) : Type 0 where
  pub is : P p
  pub inside : InFull t p

-- the points within the full ranges that P tells are kept, and each point is one that they tell
pub record IsLeft (t : TiedView) (P : Point → Type 0) : Type 0 where
  pub kept : (p : Point) → InFull t p → P p → In t p
  pub told : (p : Point) → In t p → IsTold true (shape_of t) (Inside t P) p
