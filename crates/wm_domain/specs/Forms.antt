-- The values of forms.
use Rattle.std.specs.Prelude.{ℕ, ◌≢◌, ◌<◌, ◌^◌, Bool, true, false, IsTrue, ℤ, pos, neg_ℤ, ◌+ℤ◌, List, [], ◌∷◌, unsigned_abs}
use Rattle.wm_domain.specs.declared.form.Term.{Term}
use Rattle.wm_domain.specs.declared.form.Form.{Form}

abbrev pub signed : Bool → ℤ → ℤ
signed true z = neg_ℤ z
signed false z = z

abbrev pub term_value : (ℕ → ℤ) → Term → ℤ
term_value x t = signed t.negative (x t.variable)

abbrev pub terms_value : (ℕ → ℤ) → List Term → ℤ
terms_value x [] = pos 0
terms_value x (t ∷ rest) = term_value x t +ℤ terms_value x rest

abbrev pub form_value : (ℕ → ℤ) → Form → ℤ
form_value x f = terms_value x f.terms +ℤ f.constant

-- at most two terms of different variables, all of which there are
abbrev pub AreTerms : ℕ → List Term → Type 0
AreTerms n [] = Unit {0}
AreTerms n (t ∷ []) = t.variable < n
AreTerms n (t ∷ u ∷ []) = (t.variable < n) × (u.variable < n) × (t.variable ≢ u.variable)
AreTerms n (t ∷ u ∷ v ∷ rest) = ⊥

-- a form over n variables
pub record IsForm (n : ℕ) (f : Form) : Type 0 where
  pub terms : AreTerms n f.terms
  pub small : unsigned_abs f.constant < 2 ^ 50

-- at most one term
abbrev pub IsSimple : List Term → Type 0
IsSimple [] = Unit {0}
IsSimple (t ∷ []) = Unit {0}
IsSimple (t ∷ u ∷ rest) = ⊥

-- a form whose bounds a state keeps as they are: of at most one term or, where there are bounds on pairs, of two among the
-- first n variables, which are the group
abbrev pub AreBounded : Bool → ℕ → List Term → Type 0
AreBounded pairs n [] = Unit {0}
AreBounded pairs n (t ∷ []) = Unit {0}
AreBounded pairs n (t ∷ u ∷ rest) = IsTrue pairs × (t.variable < n) × (u.variable < n)
