-- What the range of a form says of its values.
use Rattle.std.proofs.Common.{refl, ℤ, ◌≤ℤ◌}
use Rattle.wm_numbers.proofs.Order.{le_trans}
use Rattle.wm_interval.specs.declared.Interval.{Interval}
use Rattle.wm_interval.specs.Holds.{IsHullOf}
use Rattle.wm_domain.specs.Points.{Point}
use Rattle.wm_domain.specs.Forms.{form_value}
use Rattle.wm_domain.specs.Changes.{IsFormValue}
use Rattle.wm_domain.specs.declared.form.Form.{Form}

pub from_least : (Has : Point → Type 0) (f : Form) (r : Interval) (low : ℤ) → IsHullOf (IsFormValue Has f) r → low ≤ℤ r.low → (p : Point) → Has p → low ≤ℤ form_value p.values f
from_least Has f r low h b p i = le_trans b (h.low_is.least (form_value p.values f) (record { x = p; is = i; gives = refl }))

pub to_greatest : (Has : Point → Type 0) (f : Form) (r : Interval) (high : ℤ) → IsHullOf (IsFormValue Has f) r → r.high ≤ℤ high → (p : Point) → Has p → form_value p.values f ≤ℤ high
to_greatest Has f r high h b p i = le_trans (h.high_is.greatest (form_value p.values f) (record { x = p; is = i; gives = refl })) b
