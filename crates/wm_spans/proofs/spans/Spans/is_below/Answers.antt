use Rattle.std.proofs.Common.{◌∙◌, ap, subst}
use Rattle.wm_spans.specs.Spanned.{Spanned, Kept}
use Rattle.wm_spans.proofs.Raised.{not_below, both_below}
use Rattle.wm_spans.proofs.spans.Spans.is_below.Goals as goal

pub returns-then-not-ranges_below-clause-value : goal.returns-then-not-ranges_below-clause-value
returns-then-not-ranges_below-clause-value c = not_below c.args.self.now c.args.other.now (subst (λ (s : Spanned). Kept s) c.self.view_is c.self.invariant) c.as_slice.result.now c.as_slice-2.result.now
    (c.as_slice.ensures.value ∙ ap (λ (s : Spanned). s.ranges) c.self.view_is) (c.as_slice-2.ensures.value ∙ ap (λ (s : Spanned). s.ranges) c.other.view_is) c.ranges_below.result c.ranges_below.ensures c.if-not-ranges_below.true

pub returns-clause-value : goal.returns-clause-value
returns-clause-value c = both_below c.args.self.now c.args.other.now (subst (λ (s : Spanned). Kept s) c.self.view_is c.self.invariant) c.as_slice.result.now c.as_slice-2.result.now
    (c.as_slice.ensures.value ∙ ap (λ (s : Spanned). s.ranges) c.self.view_is) (c.as_slice-2.ensures.value ∙ ap (λ (s : Spanned). s.ranges) c.other.view_is) c.ranges_below.result c.ranges_below.ensures c.if-not-ranges_below.false
    c.as_slice-3.result.now c.as_slice-4.result.now (c.as_slice-3.ensures.value ∙ ap (λ (s : Spanned). s.cells) c.self.view_is) (c.as_slice-4.ensures.value ∙ ap (λ (s : Spanned). s.cells) c.other.view_is) c.summaries_below.result c.summaries_below.ensures
