-- A set of numbers has what the list of its keys has.
use Rattle.std.proofs.Common.{◌≡◌, ℕ, Bool, true, false, ◌||◌, ◌==◌, nat_eq, List, [], ◌∷◌, ◌++◌, if◌then◌else◌, refl, ap, sym, ◌∙◌}
use Rattle.std.proofs.lemmas.Bool.Decides.{Decides-eqb}
use Rattle.std.specs.List.{list_any}
use Rattle.indexmap.specs.IndexSet.{insert_key}
use Rattle.wm_marks.specs.Marking.{has, with_number}

same : (a b : ℕ) → (a == b) ≡ nat_eq b a
same a b = by (a == b) (nat_eq b a) refl refl
  where
    by : (p q : Bool) → (a == b) ≡ p → nat_eq b a ≡ q → p ≡ q
    by true true e f = refl
    by true false e f = sym ((Decides-eqb b a).1 (sym ((Decides-eqb a b).0 e))) ∙ f
    by false true e f = sym e ∙ (Decides-eqb a b).1 (sym ((Decides-eqb b a).0 f))
    by false false e f = refl

first : (b r : Bool) → (if b then true else r) ≡ (b || r)
first true r = refl
first false r = refl

pub has-any : (number : ℕ) (numbers : List ℕ) → has number numbers ≡ list_any (nat_eq number) numbers
has-any number [] = refl
has-any number (other ∷ rest) = first (other == number) (has number rest) ∙ ap (λ b. b || has number rest) (same other number) ∙ ap (λ r. nat_eq number other || r) (has-any number rest)

pub with-insert : (number : ℕ) (numbers : List ℕ) → insert_key nat_eq numbers number ≡ with_number number numbers
with-insert number numbers = ap (λ b. if b then numbers else numbers ++ number ∷ []) (sym (has-any number numbers))
