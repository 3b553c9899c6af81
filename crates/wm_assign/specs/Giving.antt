-- The value of a form, as far as states tell it.
use Rattle.std.specs.Prelude.{ℕ, ◌≡◌, ◌<◌, if◌then◌else◌, ℤ, ◌-ℤ◌, ◌≤ℤ◌, List, [], ◌∷◌, Option, Some, None}
use Rattle.wm_domain.specs.declared.form.Term.{Term}
use Rattle.wm_domain.specs.declared.form.Form.{Form}
use Rattle.wm_domain.specs.declared.shape.Shape.{Shape}
use Rattle.wm_domain.specs.Points.{Point}
use Rattle.wm_domain.specs.Forms.{form_value}
use Rattle.wm_domain.specs.States.{count_of}
use Rattle.wm_carry.specs.Following.{origin, Carried}

-- z lies between the values of the form at two points
pub record InRange (Has : Point → Type 0) (f : Form) (z : ℤ) : Type 0 where
  pub x : Point
  pub y : Point
  pub x_is : Has x
  pub y_is : Has y
  pub above : form_value x.values f ≤ℤ z
  pub below : z ≤ℤ form_value y.values f

-- a variable with the plus sign, and the rest of the form
pub record Lead : Type 0 where
  pub variable : ℕ
  pub rest : Form

abbrev pub rest_form : Term → ℤ → Form
rest_form t c = record { terms = t ∷ []; constant = c }

-- the first such of two terms
abbrev pub lead_of : Term → Term → ℤ → Option Lead
lead_of t u c =
    if t.negative
    then (if u.negative then None else Some (record { variable = u.variable; rest = rest_form t c }))
    else Some (record { variable = t.variable; rest = rest_form u c })

abbrev pub IsLed : (Point → Type 0) → Option Lead → Point → ℤ → Type 0
IsLed Has None was z = Unit {0}
IsLed Has (Some lead) was z = InRange Has lead.rest (z -ℤ was.values lead.variable)

-- with at most one variable the value itself; with two a number of the form's range, which differs from the leading variable
-- by a number of the range of the rest
abbrev pub IsGivenBy : (Point → Type 0) → Form → List Term → Point → ℤ → Type 0
IsGivenBy Has f [] was z = z ≡ form_value was.values f
IsGivenBy Has f (t ∷ []) was z = z ≡ form_value was.values f
IsGivenBy Has f (t ∷ u ∷ rest) was z = InRange Has f z × IsLed Has (lead_of t u f.constant) was z

abbrev pub IsGiven : (Point → Type 0) → Form → Point → ℤ → Type 0
IsGiven Has f was z = IsGivenBy Has f f.terms was z

-- one variable of the next node gets a number
pub record Sets (source target : Shape) (Has : Point → Type 0) (v : ℕ) (What : Point → ℤ → Type 0) (p : Point) : Type 0 where
  pub was : Point
  pub carried : Carried source target Has (v ∷ []) [] was p
  pub value : What was (p.values v)

-- where v is new, w has one number in both nodes
abbrev pub IsSeen : Shape → Shape → ℕ → ℕ → Type 0
IsSeen source target v w = origin source target v ≡ None → (origin source target w ≡ Some w) × (w < count_of target)

abbrev pub AreSeen : Shape → Shape → ℕ → List Term → Type 0
AreSeen source target v [] = Unit {0}
AreSeen source target v (t ∷ rest) = IsSeen source target v t.variable × AreSeen source target v rest
