-- A counter whose least number is none below 0.
use Rattle.std.proofs.Common.{◌≡◌, refl, false, ℕ, ℤ, pos, arith}
use Rattle.std.specs.Prelude.{◌≤ℤ◌, int_lt}
use Rattle.std.proofs.lemmas.Int.{ints}
use Rattle.wm_interval.specs.declared.Interval.{Interval}
use Rattle.wm_interval.specs.Holds.{IsHullOf}
use Rattle.wm_domain.specs.Points.{Point}
use Rattle.wm_domain.specs.Changes.{IsValueOf}

above : (a b : ℤ) → int_lt a (pos 0) ≡ false → a ≤ℤ b → pos 0 ≤ℤ b
above a b e h = omega (arith, ints)

pub not_negative : (Has : Point → Type 0) (v : ℕ) (r : Interval) → IsHullOf (IsValueOf Has v) r → int_lt r.low (pos 0) ≡ false → (p : Point) → Has p → pos 0 ≤ℤ p.values v
not_negative Has v r hull e p at = above r.low (p.values v) e (hull.low_is.least (p.values v) (record { x = p; is = at; gives = refl }))
