-- The least states where one counter has grown or stuck.
use Rattle.std.proofs.Common.{◌≡◌, ℕ, ℤ, pos, ◌+ℤ◌, ◌-ℤ◌, ◌<ℤ◌, ◌≤ℤ◌, Bool, false, refl, sym, ◌∙◌, subst, arith}
use Rattle.std.proofs.lemmas.Int.{ints}
use Rattle.wm_interval.specs.declared.Interval.{Interval}
use Rattle.wm_interval.specs.Holds.{Holds}
use Rattle.wm_domain.specs.declared.form.Form.{Form}
use Rattle.wm_domain.specs.Points.{Point}
use Rattle.wm_domain.specs.Forms.{form_value, AreBounded}
use Rattle.wm_domain.specs.Changes.{Assigned, Freed}
use Rattle.wm_tested.specs.Likes.{variable_form, Below, Above}
use Rattle.wm_flow.specs.declared.action.Growth.{Growth}
use Rattle.wm_turned.specs.Turning.{most, Whole, Stuck}

pub bounded_one : (pairs : Bool) (n v : ℕ) (b : Bool) (c : ℤ) (f : Form) → f ≡ variable_form v b c → AreBounded pairs n f.terms
bounded_one pairs n v b c f e = subst (λ (x : Form). AreBounded pairs n x.terms) (sym e) tt

has_room : (x high : ℤ) (n : ℕ) → high ≡ most -ℤ pos n → ((x +ℤ pos 0) +ℤ pos 0) ≤ℤ high → (x +ℤ pos n) ≤ℤ most
has_room x high n e h = omega (arith, ints)

has_none : (x low : ℤ) (n : ℕ) → low ≡ pos 2147483648 -ℤ pos n → low ≤ℤ ((x +ℤ pos 0) +ℤ pos 0) → most <ℤ (x +ℤ pos n)
has_none x low n e h = omega (arith, ints)

grown_value : (z x step : ℤ) (n : ℕ) → step ≡ pos n → z ≡ (x +ℤ pos 0) +ℤ step → z ≡ x +ℤ pos n
grown_value z x step n e h = omega (arith, ints)

stuck_value : (m : Interval) (z : ℤ) → m.low ≡ most → m.high ≡ most → Holds m z → z ≡ most
stuck_value m z e f h = omega (arith, ints, e, f, h.above, h.below)

pub whole_from : (Has Middle : Point → Type 0) (it : Growth) (f g : Form) (high step : ℤ) (p : Point) → f ≡ variable_form it.variable false (pos 0) → high ≡ most -ℤ pos it.step → g ≡ variable_form it.variable false step → step ≡ pos it.step
    → ((q : Point) → Middle q → Below Has f high q) → Assigned Middle it.variable g p → Whole Has it p
whole_from Has Middle it f g high step p ef eh eg es made a =
    let b = subst (λ (x : Form). Below Has x high a.was) ef (made a.was a.point) in
    record {
      was = a.was;
      point = b.point;
      others = a.others;
      fits = has_room (a.was.values it.variable) high it.step eh b.below;
      value = grown_value (p.values it.variable) (a.was.values it.variable) step it.step es (subst (λ (x : Form). p.values it.variable ≡ form_value a.was.values x) eg a.value);
    }

pub stuck_from : (Has Middle : Point → Type 0) (it : Growth) (f : Form) (low : ℤ) (m : Interval) (p : Point) → f ≡ variable_form it.variable false (pos 0) → low ≡ pos 2147483648 -ℤ pos it.step → m.low ≡ most → m.high ≡ most
    → ((q : Point) → Middle q → Above Has f low q) → Freed Middle it.variable m p → Stuck Has it p
stuck_from Has Middle it f low m p ef el em en made a =
    let b = subst (λ (x : Form). Above Has x low a.was) ef (made a.was a.point) in
    record {
      was = a.was;
      point = b.point;
      others = a.others;
      past = has_none (a.was.values it.variable) low it.step el b.above;
      value = stuck_value m (p.values it.variable) em en a.value;
    }
