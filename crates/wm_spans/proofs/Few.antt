-- Lists of at most two terms, and of at most one.
use Rattle.std.proofs.Common.{◌≡◌, ℕ, List, [], ◌∷◌, length, sym, ◌∙◌, ap, subst, refl}
use Rattle.wm_domain.specs.declared.form.Term.{Term}
use Rattle.wm_domain.specs.Forms.{AreTerms, IsSimple}

no_length : {P : Type 0} (t : Term) (ts : List Term) → length (t ∷ ts) ≡ 0 → P
no_length t ts e = cc

pub none_of : (ts : List Term) → length ts ≡ 0 → ts ≡ []
none_of [] e = refl
none_of (t ∷ ts) e = no_length t ts e

pub two_of : (n : ℕ) (ts rest more : List Term) (a b : Term) → AreTerms n ts → ts ≡ a ∷ rest → rest ≡ b ∷ more → ts ≡ a ∷ b ∷ []
two_of n ts rest more a b h e f = e ∙ ap (λ (xs : List Term). a ∷ xs) (f ∙ ap (λ (xs : List Term). b ∷ xs) (last more (subst (AreTerms n) (e ∙ ap (λ (xs : List Term). a ∷ xs) f) h)))
  where
    last : (xs : List Term) → AreTerms n (a ∷ b ∷ xs) → xs ≡ []
    last [] k = refl
    last (x ∷ xs) k = absurd k

pub one_of : (ts rest : List Term) (a : Term) → IsSimple ts → ts ≡ a ∷ rest → ts ≡ a ∷ []
one_of ts rest a h e = e ∙ ap (λ (xs : List Term). a ∷ xs) (last rest (subst IsSimple e h))
  where
    last : (xs : List Term) → IsSimple (a ∷ xs) → xs ≡ []
    last [] k = refl
    last (x ∷ xs) k = absurd k
