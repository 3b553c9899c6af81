-- The form that a sum or a difference of two forms is.
use Rattle.std.specs.Prelude.{Bool, ℤ, List, [], ◌∷◌, Option, Some, None}
use Rattle.wm_domain.specs.declared.form.Form.{Form}
use Rattle.wm_domain.specs.declared.form.Term.{Term}
use Rattle.wm_flow.specs.declared.kept.Kept.{Kept}
use Rattle.wm_flow.specs.Kept.{collected, form_of}

-- at most two terms and a constant; none of more
abbrev pub room_of : List Term → ℤ → Option Kept
room_of [] z = Some (record { first = None; second = None; constant = z })
room_of (t ∷ []) z = Some (record { first = Some t; second = None; constant = z })
room_of (t ∷ u ∷ []) z = Some (record { first = Some t; second = Some u; constant = z })
room_of (t ∷ u ∷ v ∷ rest) z = None

abbrev pub collected_of : Option Kept → Bool → Option Kept → Option Kept
collected_of None turn b = None
collected_of (Some a) turn None = None
collected_of (Some a) turn (Some b) = collected a turn b

abbrev pub form_in : Option Kept → Option Form
form_in None = None
form_in (Some kept) = Some (form_of kept)

-- the sum, or the difference where the second is turned; none where it is no form of at most two terms
abbrev pub sum_of : Form → Bool → Form → Option Form
sum_of a turn b = form_in (collected_of (room_of a.terms a.constant) turn (room_of b.terms b.constant))
