-- Values of arguments, at the call's node and at the point between.
use Rattle.std.proofs.Common.{◌≡◌, ℕ, ◌<◌, ℤ, pos, ◌+ℤ◌, ◌-ℤ◌, ◌≤ℤ◌, Bool, List, [], ◌∷◌, refl, sym, ◌∙◌, ap, subst}
use Rattle.wm_numbers.proofs.Order.{le_trans, le_refl}
use Rattle.wm_interval.specs.declared.Interval.{Interval}
use Rattle.wm_interval.specs.Holds.{Holds, IsHullOf}
use Rattle.wm_domain.specs.declared.form.Term.{Term}
use Rattle.wm_domain.specs.declared.form.Form.{Form}
use Rattle.wm_domain.specs.Points.{Point}
use Rattle.wm_domain.specs.Forms.{signed, terms_value, form_value, IsForm}
use Rattle.wm_domain.specs.Changes.{IsFormValue}
use Rattle.wm_assign.specs.Giving.{InRange, IsGiven, IsGivenBy}
use Rattle.wm_tested.specs.Likes.{variable_form}
use Rattle.wm_middle.specs.declared.parts.Part.{Part}
use Rattle.wm_middle.specs.declared.parts.Part.TheVariants.{Caller}
use Rattle.wm_middle.specs.Parting.{part_at, part_value}
use Rattle.wm_entered.specs.Crossing.{middle_point}

-- a number between two values of the form lies in its range
pub range_holds : (Has : Point → Type 0) (f : Form) (r : Interval) (z : ℤ) → IsHullOf (IsFormValue Has f) r → InRange Has f z → Holds r z
range_holds Has f r z h i = record {
  above = le_trans (h.low_is.least (form_value i.x.values f) (record { x = i.x; is = i.x_is; gives = refl })) i.above;
  below = le_trans i.below (h.high_is.greatest (form_value i.y.values f) (record { x = i.y; is = i.y_is; gives = refl }));
}

same_range : (Has : Point → Type 0) (f : Form) (was : Point) (z : ℤ) → Has was → z ≡ form_value was.values f → InRange Has f z
same_range Has f was z h e = record {
  x = was;
  y = was;
  x_is = h;
  y_is = h;
  above = subst (λ (x : ℤ). form_value was.values f ≤ℤ x) (sym e) (le_refl (form_value was.values f));
  below = subst (λ (x : ℤ). x ≤ℤ form_value was.values f) (sym e) (le_refl (form_value was.values f));
}

given_range_by : (Has : Point → Type 0) (f : Form) (ts : List Term) (was : Point) (z : ℤ) → Has was → IsGivenBy Has f ts was z → InRange Has f z
given_range_by Has f [] was z h g = same_range Has f was z h g
given_range_by Has f (t ∷ []) was z h g = same_range Has f was z h g
given_range_by Has f (t ∷ u ∷ rest) was z h g = g.0

-- what an argument gives lies between two values of its form
pub given_range : (Has : Point → Type 0) (f : Form) (was : Point) (z : ℤ) → Has was → IsGiven Has f was z → InRange Has f z
given_range Has f was z h g = given_range_by Has f f.terms was z h g

-- ---- a form of one term

pub one_given : (Has : Point → Type 0) (f : Form) (t : Term) (was : Point) (z : ℤ) → f.terms ≡ t ∷ [] → IsGiven Has f was z → z ≡ form_value was.values f
one_given Has f t was z e g = subst (λ (ts : List Term). IsGivenBy Has f ts was z) e g

caller_value : (parts : List Part) (was p : Point) (v w : ℕ) → part_at parts w ≡ Caller v → (middle_point parts was p).values w ≡ was.values v
caller_value parts was p v w e = ap (part_value was p) e

one_value : (n : Bool) (x y c : ℤ) → x ≡ y → (signed n x +ℤ pos 0) +ℤ c ≡ (signed n y +ℤ pos 0) +ℤ c
one_value n x y c e = ap (λ (z : ℤ). (signed n z +ℤ pos 0) +ℤ c) e

one_form : (f : Form) (t : Term) (was : Point) → f.terms ≡ t ∷ [] → form_value was.values f ≡ (signed t.negative (was.values t.variable) +ℤ pos 0) +ℤ f.constant
one_form f t was e = ap (λ (ts : List Term). terms_value was.values ts +ℤ f.constant) e

-- between it has the same value as at the call's node
pub one_same : (parts : List Part) (f g : Form) (t : Term) (was p : Point) (z : ℤ) (w : ℕ) → f.terms ≡ t ∷ [] → part_at parts w ≡ Caller t.variable → g ≡ variable_form w t.negative f.constant → z ≡ form_value was.values f → z ≡ form_value (middle_point parts was p).values g
one_same parts f g t was p z w e k eg h =
    h ∙ one_form f t was e ∙ sym (one_value t.negative ((middle_point parts was p).values w) (was.values t.variable) f.constant (caller_value parts was p t.variable w k))
    ∙ sym (ap (λ (x : Form). form_value (middle_point parts was p).values x) eg)

pub variable_is_form : (n w : ℕ) (b : Bool) (f g : Form) → (m : ℕ) → IsForm m f → g ≡ variable_form w b f.constant → w < n → IsForm n g
variable_is_form n w b f g m h e k = subst (IsForm n) (sym e) (record { terms = k; small = h.small })

-- ---- a form of two terms

pub difference_same : (Has : Point → Type 0) (rest g : Form) (parts : List Part) (was p : Point) (z : ℤ) (v w : ℕ) → part_at parts w ≡ Caller v → g ≡ rest → InRange Has rest (z -ℤ was.values v) → InRange Has g (z -ℤ (middle_point parts was p).values w)
difference_same Has rest g parts was p z v w k e i =
    subst (λ (f : Form). InRange Has f (z -ℤ (middle_point parts was p).values w)) (sym e) (subst (λ (x : ℤ). InRange Has rest (z -ℤ x)) (sym (caller_value parts was p v w k)) i)
