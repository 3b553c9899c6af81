-- What an action of a known kind allows.
use Rattle.std.proofs.Common.{◌≡◌, ℕ, List, Option, sym, subst}
use Rattle.wm_domain.specs.declared.shape.Shape.{Shape}
use Rattle.wm_domain.specs.Points.{Point}
use Rattle.wm_domain.specs.States.{Keeps}
use Rattle.wm_flow.specs.declared.action.Action.{Action}
use Rattle.wm_flow.specs.declared.action.Action.TheVariants as action
use Rattle.wm_flow.specs.declared.action.Returned.{Returned}
use Rattle.wm_stepped.specs.Allowing.{AllowedBy}

module _ {S : Type 0} (Holds_of : S → Point → Type 0) (shape_of : S → Shape) (s t : Shape) (Has : Point → Type 0) (act : Action) (state : S) where
  -- the action is of this kind
  pub keeps_kind : (kind : Action) → act ≡ kind → Keeps Holds_of shape_of state (AllowedBy s t Has (λ q. ⊥) kind) → Keeps Holds_of shape_of state (AllowedBy s t Has (λ q. ⊥) act)
  keeps_kind kind e k = subst (λ (a : Action). Keeps Holds_of shape_of state (AllowedBy s t Has (λ q. ⊥) a)) (sym e) k

  -- a return without a point at the call's node allows none
  pub keeps_none : (call : ℕ) (from_call from_exit arrays : List (Option ℕ)) (result : Option Returned) → act ≡ action.Leave call from_call from_exit arrays result → Keeps Holds_of shape_of state (AllowedBy s t Has (λ q. ⊥) act)
  keeps_none call from_call from_exit arrays result e = keeps_kind (action.Leave call from_call from_exit arrays result) e (record { kept = λ p i h. absurd h.call_is })
