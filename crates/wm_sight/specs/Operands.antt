-- The operands of a site at the points of a state.
use Rattle.std.specs.Prelude.{ℕ, Bool, true, false, not, if◌then◌else◌, ◌==◌, nat_lt, int_lt, ℤ, pos, negsuc, List, [], ◌∷◌}
use Rattle.wm_numbers.specs.Within.{Within}
use Rattle.wm_interval.specs.declared.Interval.{Interval}
use Rattle.wm_interval.specs.Holds.{Holds}
use Rattle.wm_domain.specs.Points.{Point}
use Rattle.wm_domain.specs.Forms.{form_value}
use Rattle.wm_domain.specs.declared.form.Form.{Form}
use Rattle.wm_domain.specs.declared.form.Term.{Term}

-- ---- forms

abbrev pub are_terms : ℕ → List Term → Bool
are_terms n [] = true
are_terms n (t ∷ []) = nat_lt t.variable n
are_terms n (t ∷ u ∷ []) = if nat_lt t.variable n then (if nat_lt u.variable n then not (t.variable == u.variable) else false) else false
are_terms n (t ∷ u ∷ v ∷ rest) = false

abbrev pub is_form : ℕ → Form → Bool
is_form n f = if int_lt (negsuc 1125899906842623) f.constant then (if int_lt f.constant (pos 1125899906842624) then are_terms n f.terms else false) else false

-- ---- boxes

-- no point has a value of the form in the range
abbrev pub Misses : (Point → Type 0) → Form → (low high : ℤ) → Type 0
Misses Has form low high = (p : Point) → Has p → Within low high (form_value p.values form) → ⊥

-- the box lies in the range, and holds each value of the form in it
pub record Boxes (Has : Point → Type 0) (form : Form) (low high : ℤ) (box : Interval) : Type 0 where
  pub low_in : Within low high box.low
  pub high_in : Within low high box.high
  pub values : (p : Point) → Has p → Within low high (form_value p.values form) → Holds box (form_value p.values form)
