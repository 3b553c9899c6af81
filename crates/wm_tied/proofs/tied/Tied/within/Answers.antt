use Rattle.std.proofs.Common.{◌≡◌, ◌∙◌, ℕ, ℤ, false, true, sym, subst}
use Rattle.std.specs.Prelude.{IsTrue}
use Rattle.wm_octagon.specs.View.{Holds}
use Rattle.wm_domain.specs.Points.{Point}
use Rattle.wm_spans.specs.Spanned as spanned
use Rattle.wm_tied.specs.Pointed.{TiedView, In, IsTied}
use Rattle.wm_tied.proofs.Cutting.{within_ties, within_spans, within_both, never, true_is}
use Rattle.wm_tied.proofs.tied.Tied.within.Goals as goal

pub returns-then-not-within : goal.returns-then-not-within
returns-then-not-within c = record {
  inclusion = (
    λ t. never t,
    λ f. subst IsTrue c.if-not-within.true (c.within.ensures.inclusion.1 (
        subst (λ (u : TiedView). (x : ℕ → ℤ) → Holds u.ties x → Holds c.other.inside.ties x) (sym c.self.view_is)
        (subst (λ (u : TiedView). (x : ℕ → ℤ) → Holds c.args.self.now.ties x → Holds u.ties x) (sym c.other.view_is)
        (within_ties c.args.self.now c.args.other.now c.if-is_empty.ensures.points c.requires.alike.group (subst (λ (u : TiedView). IsTied u.group u.ties) c.other.view_is c.other.invariant) f)))),
  );
}

pub returns : goal.returns
returns c = record {
  inclusion = (
    λ t. within_both c.args.self.now c.args.other.now c.if-is_empty.ensures.points c.requires.alike.group (subst (λ (u : TiedView). IsTied u.group u.ties) c.other.view_is c.other.invariant)
        (subst (λ (u : TiedView). (x : ℕ → ℤ) → Holds u.ties x → Holds c.args.other.now.ties x) c.self.view_is
        (subst (λ (u : TiedView). (x : ℕ → ℤ) → Holds c.self.inside.ties x → Holds u.ties x) c.other.view_is
        (c.within.ensures.inclusion.0 (true_is c.within.result c.if-not-within.false))))
        (subst (λ (u : TiedView). (p : Point) → spanned.In u.spans p → spanned.In c.args.other.now.spans p) c.self.view_is
        (subst (λ (u : TiedView). (p : Point) → spanned.In c.self.inside.spans p → spanned.In u.spans p) c.other.view_is
        (c.within-2.ensures.inclusion.0 t))),
    λ f. c.within-2.ensures.inclusion.1 (
        subst (λ (u : TiedView). (p : Point) → spanned.In u.spans p → spanned.In c.other.inside.spans p) (sym c.self.view_is)
        (subst (λ (u : TiedView). (p : Point) → spanned.In c.args.self.now.spans p → spanned.In u.spans p) (sym c.other.view_is)
        (within_spans c.args.self.now c.args.other.now c.if-is_empty.ensures.points c.requires.alike.group (subst (λ (u : TiedView). IsTied u.group u.ties) c.other.view_is c.other.invariant) f))),
  );
}
