-- The turns of heads, one head after another.
use Rattle.std.proofs.Common.{◌≡◌, ◌⊎◌, inl, inr, ℕ, zero, suc, List, [], ◌∷◌, ◌++◌, Option, Some, None, length, refl, subst, sym, ap, ◌∙◌}
use Rattle.std.specs.Prelude.{slice_get}
use Rattle.wm_interval.specs.declared.Interval.{Interval}
use Rattle.wm_interval.specs.Holds.{IsHullOf}
use Rattle.wm_domain.specs.Points.{Point}
use Rattle.wm_domain.specs.States.{IsBare}
use Rattle.wm_domain.specs.Changes.{IsValueOf}
use Rattle.wm_flow.specs.declared.action.Growth.{Growth}
use Rattle.wm_flow.specs.declared.graph.Head.{Head}
use Rattle.wm_flow.specs.declared.graph.Graph.{Graph}
use Rattle.wm_trip.specs.Turns.{turns_up_to}
use Rattle.wm_check.specs.Counters.{counter_of, IsTurns, IsTurnsOf}

some_there : {X : Type 0} (x y : X) → Some x ≡ Some y → x ≡ y
some_there x y e = cc

got_cases : {X : Type 0} (xs : List X) (x y : X) (k : ℕ) → slice_get (xs ++ x ∷ []) k ≡ Some y → (slice_get xs k ≡ Some y) ⊎ ((k ≡ length xs) × (x ≡ y))
got_cases [] x y zero e = inr (refl, some_there x y e)
got_cases [] x y (suc k) e = inl e
got_cases (z ∷ xs) x y zero e = inl e
got_cases (z ∷ xs) x y (suc k) e = later (got_cases xs x y k e)
  where
    later : (slice_get xs k ≡ Some y) ⊎ ((k ≡ length xs) × (x ≡ y)) → (slice_get xs k ≡ Some y) ⊎ ((suc k ≡ suc (length xs)) × (x ≡ y))
    later (inl h) = inl h
    later (inr h) = inr (ap suc h.0, h.1)

module _ {S : Type 0} (Has : S → Point → Type 0) where
  pub bare_turns : (growth : Growth) (state : S) → IsBare (Has state) → IsTurns Has growth state None
  bare_turns growth state b = record { bare = λ h. refl; exact = λ range is. absurd (b is.low_is.attained.x is.low_is.attained.is) }

  pub told_turns : (growth : Growth) (state : S) (turns : Option ℕ) (range : Interval) → IsHullOf (IsValueOf (Has state) growth.variable) range
      → ((other : Interval) → IsHullOf (IsValueOf (Has state) growth.variable) other → turns ≡ turns_up_to other.high growth.step) → IsTurns Has growth state turns
  told_turns growth state turns range is e = record { bare = λ b. absurd (b is.low_is.attained.x is.low_is.attained.is); exact = e }

  abbrev pub Each : Graph → List S → List (Option ℕ) → Type 0
  Each graph states turns = (k : ℕ) (head : Head) (state : S) (own : Option ℕ) → slice_get graph.heads k ≡ Some head → slice_get states k ≡ Some state → slice_get turns k ≡ Some own
      → IsTurnsOf Has head.loop_id (counter_of graph head) state own

  pub turns_push : (graph : Graph) (states : List S) (turns next : List (Option ℕ)) (n : ℕ) (head : Head) (state : S) (own : Option ℕ) → next ≡ turns ++ own ∷ [] → length turns ≡ n → Each graph states turns
      → slice_get graph.heads n ≡ Some head → slice_get states n ≡ Some state → IsTurnsOf Has head.loop_id (counter_of graph head) state own → Each graph states next
  turns_push graph states turns next n head state own pushed count each h s is = λ k another other one hk sk tk.
      by k another other one hk sk (got_cases turns own one k (subst (λ ts. slice_get ts k ≡ Some one) pushed tk))
    where
      by : (k : ℕ) (another : Head) (other : S) (one : Option ℕ) → slice_get graph.heads k ≡ Some another → slice_get states k ≡ Some other → (slice_get turns k ≡ Some one) ⊎ ((k ≡ length turns) × (own ≡ one))
          → IsTurnsOf Has another.loop_id (counter_of graph another) other one
      by k another other one hk sk (inl t) = each k another other one hk sk t
      by k another other one hk sk (inr e) =
          let heads : head ≡ another = some_there head another (sym h ∙ ap (slice_get graph.heads) (sym (e.0 ∙ count)) ∙ hk) in
          let same : state ≡ other = some_there state other (sym s ∙ ap (slice_get states) (sym (e.0 ∙ count)) ∙ sk) in
          subst (λ (u : Option ℕ). IsTurnsOf Has another.loop_id (counter_of graph another) other u) e.1
          (subst (λ (u : S). IsTurnsOf Has another.loop_id (counter_of graph another) u own) same
          (subst (λ (u : Head). IsTurnsOf Has u.loop_id (counter_of graph u) state own) heads is))
