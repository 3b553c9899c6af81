-- What is kept of a node is its label.
use Rattle.std.proofs.Common.{◌≡◌, ℕ, List, [], ◌∷◌, Bool, true, false, cond, Option, Some, None, refl, subst}
use Rattle.std.proofs.lemmas.List.Elements.{All-head, All-tail}
use Rattle.std.proofs.lemmas.Bool.{eqb-true}
use Rattle.std.specs.Prelude.{All, ◌==◌}
use Rattle.wm_kept.specs.Pairs.{state_in, or_here}

module _ {S : Type 0} (P : ℕ → S → Type 0) where
  here : (node : ℕ) (e : ℕ × S) (s : S) (b : Bool) → (e.0 == node) ≡ b → P e.0 e.1 → cond b (Some e.1) None ≡ Some s → P node s
  here node e s true t h is = subst (λ n. P n s) (eqb-true e.0 node t) (subst (P e.0) (same is) h)
    where
      same : Some e.1 ≡ Some s → e.1 ≡ s
      same is = cc
  here node e s false t h is = absurd (no_some is)
    where
      no_some : ◌≡◌ {A = Option S} None (Some s) → ⊥
      no_some is = cc

  -- what holds of all pairs holds of the state of a node
  pub of_state : (node : ℕ) (pairs : List (ℕ × S)) (s : S) → All (λ (e : ℕ × S). P e.0 e.1) pairs → state_in node pairs ≡ Some s → P node s
  of_state node [] s h is = absurd (no_some is)
    where
      no_some : ◌≡◌ {A = Option S} None (Some s) → ⊥
      no_some is = cc
  of_state node (e ∷ rest) s h is = by (state_in node rest) s (of_state node rest) is
    where
      by : (found : Option S) (s : S) → ((t : S) → All (λ (e : ℕ × S). P e.0 e.1) rest → found ≡ Some t → P node t) → or_here node e found ≡ Some s → P node s
      by None s later is = here node e s (e.0 == node) refl (All-head (λ (e : ℕ × S). P e.0 e.1) e rest h) is
      by (Some t) s later is = later s (All-tail (λ (e : ℕ × S). P e.0 e.1) e rest h) is
