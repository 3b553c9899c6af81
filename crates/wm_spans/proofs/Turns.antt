-- An interval and the negatives of its numbers.
use Rattle.std.proofs.Common.{◌≡◌, ℤ, neg_ℤ, ◌≤ℤ◌, Bool, true, sym, subst, arith}
use Rattle.std.specs.Prelude.{◌↔◌}
use Rattle.std.proofs.lemmas.Int.{ints}
use Rattle.wm_interval.specs.declared.Interval.{Interval}
use Rattle.wm_interval.specs.Holds.{Holds}
use Rattle.wm_domain.specs.Forms.{signed}

negatives_held : (r x : Interval) → x.low ≡ neg_ℤ r.high → x.high ≡ neg_ℤ r.low → (z : ℤ) → Holds x (neg_ℤ z) ↔ Holds r z
negatives_held r x e f z = (
  λ h. record { above = omega (arith, ints, h.below, f); below = omega (arith, ints, h.above, e) },
  λ h. record { above = omega (arith, ints, h.below, e); below = omega (arith, ints, h.above, f) },
)

negatives_back : (r x : Interval) → x.low ≡ neg_ℤ r.high → x.high ≡ neg_ℤ r.low → (z : ℤ) → Holds x z ↔ Holds r (neg_ℤ z)
negatives_back r x e f z = (
  λ h. record { above = omega (arith, ints, h.below, f); below = omega (arith, ints, h.above, e) },
  λ h. record { above = omega (arith, ints, h.below, e); below = omega (arith, ints, h.above, f) },
)

pub turned_held : (r x : Interval) (b : Bool) → b ≡ true → x.low ≡ neg_ℤ r.high → x.high ≡ neg_ℤ r.low → (z : ℤ) → Holds x (signed b z) ↔ Holds r z
turned_held r x b t e f = subst (λ (c : Bool). (z : ℤ) → Holds x (signed c z) ↔ Holds r z) (sym t) (negatives_held r x e f)

pub turned_back : (r x : Interval) (b : Bool) → b ≡ true → x.low ≡ neg_ℤ r.high → x.high ≡ neg_ℤ r.low → (z : ℤ) → Holds x z ↔ Holds r (signed b z)
turned_back r x b t e f = subst (λ (c : Bool). (z : ℤ) → Holds x z ↔ Holds r (signed c z)) (sym t) (negatives_back r x e f)
