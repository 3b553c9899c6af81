use Rattle.std.proofs.Common.{◌≡◌, ◌∙◌, ◌≤◌, ℕ, ℤ, ap, sym, subst, arith}
use Rattle.std.specs.Prelude.{◌↔◌}
use Rattle.wm_octagon.specs.View.{OctagonView, Holds}
use Rattle.wm_ties.specs.Exact.{HasPoint}
use Rattle.wm_ties.specs.declared.ties.Ties.TheInside.{Inside}
use Rattle.wm_ties.proofs.Calls.{like_emptied, like_small, narrow_fewer}
use Rattle.wm_ties.proofs.ties.Ties.become_like.Goals as goal
use Rattle.wm_ties.proofs.ties.Ties.become_like.Goals.{then-self-gt0, else-self-gt0}

-- as many variables as before, and as the other
counted : (c : goal.After-join_with) → c.if-self-gt0.self-inside.octagon.variables ≡ c.self.inside.octagon.variables
counted c = elim c.if-self-gt0.branch [
  | then-self-gt0 w ↦ ap (λ (i : Inside). i.octagon.variables) w.self-inside-is ∙ w.empty_out.ensures.variables
  | else-self-gt0 w ↦ ap (λ (i : Inside). i.octagon.variables) w.self-inside-is
]

count_is : (c : goal.After-join_with) → c.if-self-gt0.self-inside.count ≡ c.self.inside.count
count_is c = elim c.if-self-gt0.branch [
  | then-self-gt0 w ↦ ap (λ (i : Inside). i.count) w.self-inside-is
  | else-self-gt0 w ↦ ap (λ (i : Inside). i.count) w.self-inside-is
]

as_other : (c : goal.After-join_with) → c.if-self-gt0.self-inside.octagon.variables ≡ c.other.inside.octagon.variables
as_other c = counted c ∙ ap (λ (u : OctagonView). u.variables) c.self.view_is ∙ c.requires.same ∙ sym (ap (λ (u : OctagonView). u.variables) c.other.view_is)

none_left : (n : ℕ) → n ≤ 0 → n ≡ 0
none_left n h = omega arith

like : (c : goal.After-join_with) → (x : ℕ → ℤ) → Holds c.join_with.new.self x ↔ Holds c.other.inside.octagon x
like c = elim c.if-self-gt0.branch [
  | then-self-gt0 w ↦ like_emptied c.if-self-gt0.self-inside.octagon c.other.inside.octagon c.join_with.new.self c.join_with.ensures.variables (as_other c)
      (subst (λ (u : OctagonView). (x : ℕ → ℤ) → Holds u x → ⊥) (sym (ap (λ (i : Inside). i.octagon) w.self-inside-is)) w.empty_out.ensures.none) c.join_with.ensures.least
  | else-self-gt0 w ↦ like_small c.if-self-gt0.self-inside.octagon c.other.inside.octagon c.join_with.new.self c.join_with.ensures.variables (as_other c)
      (counted c ∙ sym c.self.invariant.counted ∙ none_left c.self.inside.count w.if-self-gt0.false) (subst HasPoint (sym c.other.view_is) c.requires.some) c.join_with.ensures.least
]

pub invariant_of-self : goal.invariant_of-self
invariant_of-self c = record {
  narrow = narrow_fewer c.other.inside.octagon c.join_with.new.self (c.join_with.ensures.variables ∙ as_other c) (λ x h. (like c x).0 h) c.other.invariant.narrow;
  counted = count_is c ∙ c.self.invariant.counted ∙ sym (counted c) ∙ sym c.join_with.ensures.variables;
}

pub returns-clause-points : goal.returns-clause-points
returns-clause-points c = subst (λ (u : OctagonView). (x : ℕ → ℤ) → Holds c.join_with.new.self x ↔ Holds u x) c.other.view_is (like c)
