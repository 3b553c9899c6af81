use Rattle.std.proofs.Common.{◌∙◌, ap, sym, subst, ◌≤◌, List, ℕ}
use Rattle.wm_calls.specs.Sizes.{sizes_of}
use Rattle.wm_assemble.specs.Plans.{total_of}
use Rattle.wm_assemble.proofs.Refusing.{planned_answers}
use Rattle.wm_assemble.proofs.first.planned.Goals as goal

pub returns : goal.returns
returns c =
    planned_answers c.args.unit.now c.args.functions.now c.args.loops.now c.args.plan.now c.as_slice-2.result.now c.counted.result
    (c.as_slice-2.ensures.value ∙ c.in_ok-sizes.ensures.sizes ∙ ap sizes_of c.items.ensures.items)
    (subst (λ (n : ℕ). n ≤ 1024) (c.total_of.ensures ∙ ap (λ (s : List ℕ). total_of s c.args.plan.now) (c.as_slice.ensures.value ∙ sym c.as_slice-2.ensures.value)) c.if-total_of-gt1024.false)
    c.counted.ensures
