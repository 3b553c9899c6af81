-- Forms that are like others, and points at which a form lies between two numbers.
use Rattle.std.specs.Prelude.{ℕ, Bool, true, false, not, ℤ, ◌≤ℤ◌, List, [], ◌∷◌, map}
use Rattle.wm_domain.specs.declared.form.Term.{Term}
use Rattle.wm_domain.specs.declared.form.Form.{Form}
use Rattle.wm_domain.specs.Points.{Point}
use Rattle.wm_domain.specs.Forms.{form_value}

abbrev pub turned : Bool → Term → Term
turned true t = record { variable = t.variable; negative = not t.negative }
turned false t = t

-- the terms of a form, or their negatives, with another constant
abbrev pub like : Form → Bool → ℤ → Form
like f negative c = record { terms = map (turned negative) f.terms; constant = c }

abbrev pub variable_form : ℕ → Bool → ℤ → Form
variable_form v negative c = record { terms = record { variable = v; negative = negative } ∷ []; constant = c }

-- a point at which the form is at most `high`
pub record Below (Has : Point → Type 0) (f : Form) (high : ℤ) (p : Point) : Type 0 where
  pub point : Has p
  pub below : form_value p.values f ≤ℤ high

-- a point at which it is at least `low`
pub record Above (Has : Point → Type 0) (f : Form) (low : ℤ) (p : Point) : Type 0 where
  pub point : Has p
  pub above : low ≤ℤ form_value p.values f

-- a point at which it lies between the two
pub record Between (Has : Point → Type 0) (f : Form) (low high : ℤ) (p : Point) : Type 0 where
  pub point : Has p
  pub above : low ≤ℤ form_value p.values f
  pub below : form_value p.values f ≤ℤ high
