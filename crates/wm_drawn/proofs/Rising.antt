-- Picks that name one place after another name each once.
use Rattle.std.proofs.Common.{◌≡◌, ℕ, zero, suc, ◌<◌, ◌≤◌, List, [], ◌∷◌, Option, Some, None, refl, ap, subst, arith}
use Rattle.std.specs.Prelude.{slice_index_or}
use Rattle.wm_domain.specs.Changes.{ArePicks}
use Rattle.wm_drawn.specs.Pairing.{AreRising}

none_of : {P : Type 0} {x : ℕ} → None ≡ Some x → P
none_of e = cc

some_of : {x y : ℕ} → Some x ≡ Some y → x ≡ y
some_of e = cc

named : (first count : ℕ) (picks : List (Option ℕ)) (k v : ℕ) → AreRising first count picks → slice_index_or picks k None ≡ Some v → (first ≤ v) × (v < count)
named first count [] k v r e = none_of e
named first count (None ∷ rest) zero v r e = none_of e
named first count (None ∷ rest) (suc k) v r e = named first count rest k v r e
named first count (Some u ∷ rest) zero v r e = (subst (λ (x : ℕ). first ≤ x) (some_of e) r.0, subst (λ (x : ℕ). x < count) (some_of e) r.1)
named first count (Some u ∷ rest) (suc k) v r e =
    let i = named (suc u) count rest k v r.2 e in
    (omega (arith, r.0, i.0), i.1)

apart : (first count : ℕ) (picks : List (Option ℕ)) (k l v : ℕ) → AreRising first count picks → slice_index_or picks k None ≡ Some v → slice_index_or picks l None ≡ Some v → k ≡ l
apart first count [] k l v r e f = none_of e
apart first count (None ∷ rest) zero l v r e f = none_of e
apart first count (None ∷ rest) (suc k) zero v r e f = none_of f
apart first count (None ∷ rest) (suc k) (suc l) v r e f = ap suc (apart first count rest k l v r e f)
apart first count (Some u ∷ rest) zero zero v r e f = refl
apart first count (Some u ∷ rest) zero (suc l) v r e f = absurd (omega (arith, (named (suc u) count rest l v r.2 f).0, some_of e))
apart first count (Some u ∷ rest) (suc k) zero v r e f = absurd (omega (arith, (named (suc u) count rest k v r.2 e).0, some_of f))
apart first count (Some u ∷ rest) (suc k) (suc l) v r e f = ap suc (apart (suc u) count rest k l v r.2 e f)

pub picks_of : (first count : ℕ) (picks : List (Option ℕ)) → AreRising first count picks → ArePicks count picks
picks_of first count picks r = record {
  named = λ k v e. (named first count picks k v r e).1;
  apart = λ k l v e f. apart first count picks k l v r e f;
}
