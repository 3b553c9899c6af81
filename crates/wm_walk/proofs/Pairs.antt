-- Pairs of nodes before another one, and pairs of which some are given up.
use Rattle.std.proofs.Common.{◌≡◌, ℕ, ◌<◌, List, [], ◌∷◌, take, drop, Bool, true, false, Option, Some, None, refl, subst, arith, suc}
use Rattle.std.proofs.lemmas.List.Elements.{All-head, All-tail, All-append, All-take, All-drop}
use Rattle.std.proofs.lemmas.Bool.{eqb-true}
use Rattle.std.specs.Prelude.{All, ◌==◌}
use Rattle.wm_kept.specs.Pairs.{state_in, place_in, without_place, without}
use Rattle.wm_walk.specs.Keeping.{without_all}

-- a node that is behind is another one
apart : (a b : ℕ) (t : Bool) → (a == b) ≡ t → a < b → t ≡ false
apart a b true e h = absurd (below (subst (λ n. n < b) (eqb-true a b e) h))
  where
    below : b < b → ⊥
    below h = omega arith
apart a b false e h = refl

pub not_there : {S : Type 0} (node : ℕ) (pairs : List (ℕ × S)) → All (λ (e : ℕ × S). e.0 < node) pairs → state_in node pairs ≡ None
not_there node [] h = refl
not_there {S} node (e ∷ rest) h =
    let ih : state_in node rest ≡ None = not_there node rest (All-tail (λ (e : ℕ × S). e.0 < node) e rest h) in
    let k : (e.0 == node) ≡ false = apart e.0 node (e.0 == node) refl (All-head (λ (e : ℕ × S). e.0 < node) e rest h) in
    rw (ih, k)

module _ {S : Type 0} (P : (ℕ × S) → Type 0) where
  at_place : (o : Option ℕ) (pairs : List (ℕ × S)) → All P pairs → All P (without_place o pairs)
  at_place None pairs h = h
  at_place (Some k) pairs h = All-append P (take k pairs) (drop (suc k) pairs) (All-take P k pairs h) (All-drop P (suc k) pairs h)

  one_out : (node : ℕ) (pairs : List (ℕ × S)) → All P pairs → All P (without node pairs)
  unfolding without
  one_out node pairs h = at_place (place_in node pairs) pairs h

  -- what holds of all pairs holds of those that are left
  pub all_out : (nodes : List ℕ) (pairs : List (ℕ × S)) → All P pairs → All P (without_all nodes pairs)
  all_out [] pairs h = h
  all_out (node ∷ rest) pairs h = all_out rest (without node pairs) (one_out node pairs h)
