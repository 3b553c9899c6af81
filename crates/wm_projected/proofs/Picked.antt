-- Picked variables that lie in ranges at each point.
use Rattle.std.proofs.Common.{◌≡◌, ◌∙◌, ℕ, ℤ, Option, Some, None, refl, sym, ap, subst}
use Rattle.wm_interval.specs.declared.Interval.{Interval}
use Rattle.wm_interval.specs.Holds.{Holds, IsHullOf}
use Rattle.wm_domain.specs.Points.{Point}
use Rattle.wm_domain.specs.Changes.{IsValueOf}
use Rattle.wm_tied.specs.Projecting.{IsPickedIn, IsDrawnRange}

abbrev number_or : ℕ → Option ℕ → ℕ
number_or d None = d
number_or d (Some v) = v

some_same : (w v : ℕ) → Some w ≡ Some v → w ≡ v
some_same w v e = ap (number_or 0) e

in_hull : (Has : Point → Type 0) (v : ℕ) (r : Interval) (p : Point) → IsHullOf (IsValueOf Has v) r → Has p → Holds r (p.values v)
in_hull Has v r p h i = let w : IsValueOf Has v (p.values v) = record { x = p; is = i; gives = refl } in record { above = h.low_is.least _ w; below = h.high_is.greatest _ w }

one_pick : (Has : Point → Type 0) (r full : Interval) (pick : Option ℕ) (w : ℕ) → pick ≡ Some w → IsHullOf (IsValueOf Has w) r → ((z : ℤ) → Holds r z → Holds full z) → (p : Point) → Has p → IsPickedIn Has full pick p
one_pick Has r full pick w e h f p i = record { point = i; number = λ v g. subst (λ (u : ℕ). Holds full (p.values u)) (some_same w v (sym e ∙ g)) (f (p.values w) (in_hull Has w r p h i)) }

none_some : {P : Type 0} (v : ℕ) → None ≡ Some v → P
none_some v e = cc

-- the range of the picked variable lies in a full one, and so does its number at each point
pub drawn_picked : (Has : Point → Type 0) (o : Option ℕ) (full r : Interval) → IsDrawnRange Has o full r → ((z : ℤ) → Holds r z → Holds full z) → (p : Point) → Has p → IsPickedIn Has full o p
drawn_picked Has None full r d f p i = record { point = i; number = λ v e. none_some v e }
drawn_picked Has (Some w) full r d f p i = one_pick Has r full (Some w) w refl d f p i
