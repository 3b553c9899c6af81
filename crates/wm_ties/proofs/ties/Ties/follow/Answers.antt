use Rattle.std.proofs.Common.{◌≡◌, ◌∙◌, ◌<◌, ℕ, ℤ, ap, sym, subst}
use Rattle.std.specs.Prelude.{◌↔◌}
use Rattle.wm_octagon.specs.View.{OctagonView, Holds}
use Rattle.wm_ties.specs.Exact.{Follows}
use Rattle.wm_ties.proofs.Following.{follow_none, follow_some, follow_narrow, none_narrow}
use Rattle.wm_ties.proofs.ties.Ties.follow.Goals as goal

pub invariant_of-self : goal.invariant_of-self
invariant_of-self c = record { narrow = none_narrow c.empty_out.new.octagon c.empty_out.ensures.none; counted = c.self.invariant.counted ∙ sym c.empty_out.ensures.variables }

followed : (c : goal.After-add_range) → (x : ℕ → ℤ) → Holds c.add_range.new.self x ↔ Follows c.self.inside.octagon c.args.v c.args.t c.args.d c.args.r x
followed c = follow_some c.self.inside.octagon c.args.v c.args.t c.args.d c.args.r c.new.result
    (subst (λ (k : ℕ). c.args.v < k) (sym (ap (λ (u : OctagonView). u.variables) c.self.view_is)) c.requires.inside)
    (subst (λ (k : ℕ). c.args.t.variable < k) (sym (ap (λ (u : OctagonView). u.variables) c.self.view_is)) c.requires.from)
    c.requires.narrow c.self.invariant.narrow c.new.ensures.low c.new.ensures.high
    c.set_beside.new.octagon c.add_range.new.self c.in-Some.near c.in-Some.ensures.each c.set_beside.ensures.variables c.add_range.ensures.variables c.set_beside.ensures.points c.add_range.ensures.least

pub invariant_of-self-in-Some : goal.invariant_of-self-in-Some
invariant_of-self-in-Some c = record {
  narrow = follow_narrow c.self.inside.octagon c.add_range.new.self c.args.v c.args.t c.args.d c.args.r (c.add_range.ensures.variables ∙ c.set_beside.ensures.variables) (followed c) c.requires.narrow c.self.invariant.narrow;
  counted = c.self.invariant.counted ∙ sym (c.add_range.ensures.variables ∙ c.set_beside.ensures.variables);
}

pub returns-in-None-clause-points : goal.returns-in-None-clause-points
returns-in-None-clause-points c = subst (λ (u : OctagonView). (x : ℕ → ℤ) → Holds c.empty_out.new.octagon x ↔ Follows u c.args.v c.args.t c.args.d c.args.r x) c.self.view_is
    (follow_none c.self.inside.octagon c.args.v c.args.t c.args.d c.args.r c.new.result
    (subst (λ (k : ℕ). c.args.v < k) (sym (ap (λ (u : OctagonView). u.variables) c.self.view_is)) c.requires.inside)
    (subst (λ (k : ℕ). c.args.t.variable < k) (sym (ap (λ (u : OctagonView). u.variables) c.self.view_is)) c.requires.from)
    c.requires.narrow c.self.invariant.narrow c.new.ensures.low c.new.ensures.high c.empty_out.new.octagon c.in-None.ensures.common c.empty_out.ensures.none)

pub returns-in-Some-clause-points : goal.returns-in-Some-clause-points
returns-in-Some-clause-points c = subst (λ (u : OctagonView). (x : ℕ → ℤ) → Holds c.add_range.new.self x ↔ Follows u c.args.v c.args.t c.args.d c.args.r x) c.self.view_is (followed c)
