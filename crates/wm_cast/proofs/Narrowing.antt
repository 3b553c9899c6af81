-- Ranges that are cut to 16 bits, and what a cast of a form gives.
use Rattle.std.proofs.Common.{◌≡◌, ℤ, pos, negsuc, ◌≤ℤ◌, ◌^◌, ◌<◌, unsigned_abs, refl, sym, subst, arith}
use Rattle.std.specs.Prelude.{◌↔◌}
use Rattle.std.proofs.lemmas.Int.{ints}
use Rattle.wm_numbers.specs.Within.{Within, IsWord16}
use Rattle.wm_numbers.proofs.Order.{le_trans}
use Rattle.wm_interval.specs.declared.Interval.{Interval}
use Rattle.wm_interval.specs.Holds.{Holds, IsHullOf}
use Rattle.wm_domain.specs.declared.form.Form.{Form}
use Rattle.wm_domain.specs.Points.{Point}
use Rattle.wm_domain.specs.Forms.{form_value}
use Rattle.wm_domain.specs.States.{IsSized}
use Rattle.wm_domain.specs.Changes.{IsFormValue}
use Rattle.wm_given.proofs.Cutting.{range_holds, holds_range}
use Rattle.wm_cast.specs.Casting.{InCast, IsNarrowed}

size16 : (z : ℤ) → IsWord16 z → unsigned_abs z < 2 ^ 50
size16 z h = omega (arith, ints, h.above, h.below)

ordered : (r : Interval) → r.low ≤ℤ r.high
ordered r = r.ordered

pub narrow_itself : (range all : Interval) → all.low ≡ negsuc 32767 → all.high ≡ pos 32767 → all.low ≤ℤ range.low → range.high ≤ℤ all.high → IsNarrowed range range
narrow_itself range all el eh a b =
    let low : IsWord16 range.low = record { above = omega (arith, ints, el, a); below = omega (arith, ints, eh, b, ordered range) } in
    let high : IsWord16 range.high = record { above = omega (arith, ints, el, a, ordered range); below = omega (arith, ints, eh, b) } in
    record {
      sized = record { low_size = size16 range.low low; high_size = size16 range.high high };
      all = λ z i h. h low high;
      only = λ z h. (record { above = le_trans low.above h.above; below = le_trans h.below high.below }, λ l u. h);
    }

pub narrow_all : (range all : Interval) → all.low ≡ negsuc 32767 → all.high ≡ pos 32767 → ((all.low ≤ℤ range.low) × (range.high ≤ℤ all.high) → ⊥) → IsNarrowed range all
narrow_all range all el eh outside = record {
  sized = record { low_size = size16 all.low (record { above = omega (arith, ints, el); below = omega (arith, ints, el) }); high_size = size16 all.high (record { above = omega (arith, ints, eh); below = omega (arith, ints, eh) }) };
  all = λ z i h. record { above = omega (arith, ints, el, i.above); below = omega (arith, ints, eh, i.below) };
  only = λ z h. (record { above = omega (arith, ints, el, h.above); below = omega (arith, ints, eh, h.below) }, λ l u. absurd (outside (omega (arith, ints, el, l.above), omega (arith, ints, eh, u.below))));
}

value_fits : (Has : Point → Type 0) (f : Form) (range : Interval) → IsHullOf (IsFormValue Has f) range → IsWord16 range.low → IsWord16 range.high → (x : Point) → Has x → IsWord16 (form_value x.values f)
value_fits Has f range h l u x i = record {
  above = le_trans l.above (h.low_is.least (form_value x.values f) (record { x = x; is = i; gives = refl }));
  below = le_trans (h.high_is.greatest (form_value x.values f) (record { x = x; is = i; gives = refl })) u.below;
}

-- the ends of the range are values of the form
low_fits : (Has : Point → Type 0) (f : Form) (range : Interval) → IsHullOf (IsFormValue Has f) range → ((x : Point) → Has x → IsWord16 (form_value x.values f)) → IsWord16 range.low
low_fits Has f range h all = let a = h.low_is.attained in subst IsWord16 a.gives (all a.x a.is)

high_fits : (Has : Point → Type 0) (f : Form) (range : Interval) → IsHullOf (IsFormValue Has f) range → ((x : Point) → Has x → IsWord16 (form_value x.values f)) → IsWord16 range.high
high_fits Has f range h all = let a = h.high_is.attained in subst IsWord16 a.gives (all a.x a.is)

pub cast_of : (Has : Point → Type 0) (f : Form) (range r : Interval) → IsHullOf (IsFormValue Has f) range → IsNarrowed range r → IsSized r × ((z : ℤ) → InCast Has f z ↔ Holds r z)
cast_of Has f range r h n = (
  n.sized,
  λ z. (
    λ c. n.all z c.fits (λ l u. range_holds Has f range h z (c.kept (value_fits Has f range h l u))),
    λ i. record { fits = (n.only z i).0; kept = λ all. holds_range Has f range h z ((n.only z i).1 (low_fits Has f range h all) (high_fits Has f range h all)) },
  ),
)
