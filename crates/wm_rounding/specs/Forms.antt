-- The forms on whose values a state keeps bounds.
use Rattle.std.specs.Prelude.{ℕ, Bool, false, pos, [], ◌∷◌}
use Rattle.wm_domain.specs.declared.form.Form.{Form}

abbrev pub one_form : ℕ → Form
one_form v = record { terms = record { variable = v; negative = false } ∷ []; constant = pos 0 }

-- the sum of two variables, or the first less the second
abbrev pub pair_form : (v w : ℕ) → (negative : Bool) → Form
pair_form v w negative =
    record { terms = record { variable = v; negative = false } ∷ record { variable = w; negative = negative } ∷ []; constant = pos 0 }
