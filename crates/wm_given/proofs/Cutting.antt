-- Between two values of a form.
use Rattle.std.proofs.Common.{◌≡◌, ℤ, ◌≤ℤ◌, Option, Some, None, refl, sym, subst}
use Rattle.std.specs.Prelude.{◌↔◌, MatchOption}
use Rattle.wm_numbers.proofs.Order.{le_trans}
use Rattle.wm_interval.specs.declared.Interval.{Interval}
use Rattle.wm_interval.specs.Holds.{Holds, IsHullOf, InBoth}
use Rattle.wm_domain.specs.declared.form.Form.{Form}
use Rattle.wm_domain.specs.Points.{Point}
use Rattle.wm_domain.specs.Forms.{form_value}
use Rattle.wm_domain.specs.Changes.{IsFormValue}
use Rattle.wm_assign.specs.Giving.{InRange}
use Rattle.wm_given.specs.Parts.{IsCut}

pub range_holds : (Has : Point → Type 0) (f : Form) (range : Interval) → IsHullOf (IsFormValue Has f) range → (z : ℤ) → InRange Has f z → Holds range z
range_holds Has f range h z i = record {
  above = le_trans (h.low_is.least (form_value i.x.values f) (record { x = i.x; is = i.x_is; gives = refl })) i.above;
  below = le_trans i.below (h.high_is.greatest (form_value i.y.values f) (record { x = i.y; is = i.y_is; gives = refl }));
}

pub holds_range : (Has : Point → Type 0) (f : Form) (range : Interval) → IsHullOf (IsFormValue Has f) range → (z : ℤ) → Holds range z → InRange Has f z
holds_range Has f range h z i =
    let low = h.low_is.attained in
    let high = h.high_is.attained in
    record {
      x = low.x;
      y = high.x;
      x_is = low.is;
      y_is = high.is;
      above = subst (λ (w : ℤ). w ≤ℤ z) (sym low.gives) i.above;
      below = subst (λ (w : ℤ). z ≤ℤ w) (sym high.gives) i.below;
    }

pub cut_of : (Has : Point → Type 0) (f : Form) (range all : Interval) (o : Option Interval) → IsHullOf (IsFormValue Has f) range
    → MatchOption o ((z : ℤ) → InBoth range all z → ⊥) (λ r. IsHullOf (InBoth range all) r) → MatchOption o (Unit {0}) (λ r. (z : ℤ) → Holds r z ↔ InBoth range all z) → IsCut Has f all o
cut_of Has f range all None h none each = λ z i k. none z (range_holds Has f range h z i, k)
cut_of Has f range all (Some r) h some each = λ z. (
  λ k. let b = (each z).0 k in (holds_range Has f range h z b.0, b.1),
  λ i. (each z).1 (range_holds Has f range h z i.0, i.1),
)
