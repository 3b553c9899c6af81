-- The upper bound of a counter.
use Rattle.std.proofs.Common.{◌≡◌, pos, subst}
use Rattle.std.specs.Prelude.{◌≤ℤ◌, ℕ}
use Rattle.wm_interval.specs.declared.Interval.{Interval}
use Rattle.wm_interval.specs.Holds.{IsHullOf}
use Rattle.wm_domain.specs.Points.{Point}
use Rattle.wm_domain.specs.Changes.{IsValueOf}
use Rattle.wm_numbers.proofs.Extremes.{greatest_once}

-- there is one greatest value
pub range_high : (Has : Point → Type 0) (v : ℕ) (a b : Interval) → IsHullOf (IsValueOf Has v) a → IsHullOf (IsValueOf Has v) b → a.high ≡ b.high
range_high Has v a b h k = greatest_once h.high_is k.high_is

-- it is a value at some point
pub high_not_negative : (Has : Point → Type 0) (v : ℕ) (a : Interval) → ((p : Point) → Has p → pos 0 ≤ℤ p.values v) → IsHullOf (IsValueOf Has v) a → pos 0 ≤ℤ a.high
high_not_negative Has v a h k =
    let at = k.high_is.attained in subst (λ z. pos 0 ≤ℤ z) at.gives (h at.x at.is)
