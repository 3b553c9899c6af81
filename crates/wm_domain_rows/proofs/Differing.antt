-- Picks of different numbers, one more at a time.
use Rattle.std.proofs.Common.{◌≡◌, ◌⊎◌, inl, inr, ℕ, zero, suc, ◌+◌, ◌<◌, List, [], ◌∷◌, ◌++◌, length, Option, Some, None, sym, ◌∙◌, ap, subst, refl, arith}
use Rattle.std.specs.Prelude.{slice_index_or}
use Rattle.wm_domain.specs.Changes.{ArePicks}
use Rattle.wm_domain_rows.specs.Turned.{place}

-- each pick is one of so many, at a place before the next one; none is picked twice
pub record AreDrawn (count first next : ℕ) (xs : List (Option ℕ)) : Type 0 where
  pub named : (j v : ℕ) → slice_index_or xs j None ≡ Some v → v < count
  pub before : (j v : ℕ) → slice_index_or xs j None ≡ Some v → place count first v < next
  pub apart : (j l v : ℕ) → slice_index_or xs j None ≡ Some v → slice_index_or xs l None ≡ Some v → j ≡ l

none_some : {P : Type 0} (v : ℕ) → None ≡ Some v → P
none_some v e = cc

some_same : (u v : ℕ) → Some u ≡ Some v → u ≡ v
some_same u v e = cc

next_place : (xs : List (Option ℕ)) (x : Option ℕ) (j v : ℕ) → (slice_index_or xs j None ≡ Some v) ⊎ ((j ≡ length xs) × (x ≡ Some v)) → (y : Option ℕ) → (slice_index_or (y ∷ xs) (suc j) None ≡ Some v) ⊎ ((suc j ≡ length (y ∷ xs)) × (x ≡ Some v))
next_place xs x j v (inl h) y = inl h
next_place xs x j v (inr h) y = inr (ap suc h.0, h.1)

at_end : (xs : List (Option ℕ)) (x : Option ℕ) (j v : ℕ) → slice_index_or (xs ++ (x ∷ [])) j None ≡ Some v → (slice_index_or xs j None ≡ Some v) ⊎ ((j ≡ length xs) × (x ≡ Some v))
at_end [] x zero v e = inr (refl, e)
at_end [] x (suc j) v e = none_some v e
at_end (y ∷ ys) x zero v e = inl e
at_end (y ∷ ys) x (suc j) v e = next_place ys x j v (at_end ys x j v e) y

pub none_drawn : (count first next : ℕ) → AreDrawn count first next []
none_drawn count first next = record { named = λ j v e. none_some v e; before = λ j v e. none_some v e; apart = λ j l v e f. none_some v e }

-- a place that names none, or one number
module _ (count first next : ℕ) (xs : List (Option ℕ)) (d : AreDrawn count first next xs) where
  was : (j v : ℕ) → slice_index_or (xs ++ (None ∷ [])) j None ≡ Some v → slice_index_or xs j None ≡ Some v
  was j v e = elim (at_end xs None j v e) [ inl h ↦ h | inr h ↦ none_some v h.1 ]

  pub more_none : AreDrawn count first next (xs ++ (None ∷ []))
  more_none = record {
    named = λ j v e. d.named j v (was j v e);
    before = λ j v e. d.before j v (was j v e);
    apart = λ j l v e f. d.apart j l v (was j v e) (was l v f);
  }

  module _ (u : ℕ) (inside : u < count) (at : place count first u ≡ next) where
    same : (v : ℕ) → Some u ≡ Some v → v ≡ u
    same v e = sym (some_same u v e)

    less_more : (n k : ℕ) → n < k → n < k + 1
    less_more n k h = omega arith

    own_more : (n k : ℕ) → n ≡ k → n < k + 1
    own_more n k h = omega arith

    not_before : {P : Type 0} (v : ℕ) → v ≡ u → place count first v < next → P
    not_before v e h = absurd (clash (place count first v) next (ap (place count first) e ∙ at) h)
      where
        clash : (n k : ℕ) → n ≡ k → n < k → ⊥
        clash n k e h = omega arith

    pub more_some : AreDrawn count first (next + 1) (xs ++ (Some u ∷ []))
    more_some = record {
      named = λ j v e. elim (at_end xs (Some u) j v e) [ inl h ↦ d.named j v h | inr h ↦ subst (λ (w : ℕ). w < count) (sym (same v h.1)) inside ];
      before = λ j v e. elim (at_end xs (Some u) j v e) [ inl h ↦ less_more (place count first v) next (d.before j v h) | inr h ↦ own_more (place count first v) next (ap (place count first) (same v h.1) ∙ at) ];
      apart = λ j l v e f. elim (at_end xs (Some u) j v e) [
        | inl h ↦ elim (at_end xs (Some u) l v f) [ inl k ↦ d.apart j l v h k | inr k ↦ not_before v (same v k.1) (d.before j v h) ]
        | inr h ↦ elim (at_end xs (Some u) l v f) [ inl k ↦ not_before v (same v h.1) (d.before l v k) | inr k ↦ h.0 ∙ sym k.0 ]
      ];
    }

pub are_picks : (count first next : ℕ) (xs : List (Option ℕ)) → AreDrawn count first next xs → ArePicks count xs
are_picks count first next xs d = record { named = d.named; apart = d.apart }
