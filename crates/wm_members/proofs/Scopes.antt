-- The scope that is left is the last of those around it.
use Rattle.std.proofs.Common.{◌≡◌, List, [], ◌∷◌, ◌++◌, refl, ap}
use Rattle.wm_members.specs.declared.state.State.{State}
use Rattle.wm_members.specs.States.{Scope, front_of, last_or, left}

module _ {A : Type 0} where
  pub front_of-behind : (xs : List A) (x : A) → front_of (xs ++ x ∷ []) ≡ xs
  front_of-behind [] x = refl
  front_of-behind (y ∷ []) x = refl
  front_of-behind (y ∷ z ∷ zs) x = ap (λ r. y ∷ r) (front_of-behind (z ∷ zs) x)

  pub last_or-behind : (other : A) (xs : List A) (x : A) → last_or other (xs ++ x ∷ []) ≡ x
  last_or-behind other [] x = refl
  last_or-behind other (y ∷ ys) x = last_or-behind y ys x

pub left-behind : (s : State) (xs : List Scope) (x : Scope) → s.outer ≡ xs ++ x ∷ [] → record s { outer = xs; innermost = x } ≡ left s
left-behind s xs x e = simp (e, front_of-behind, last_or-behind)
