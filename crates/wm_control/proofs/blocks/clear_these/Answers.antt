use Rattle.wm_places.specs.Seen.{plan_of}
use Rattle.std.proofs.Common.{◌∙◌, sym, ap, None, ℕ, List}
use Rattle.wm_flow.specs.Plain.{Doing}
use Rattle.wm_steps.specs.Moves.{stepped}
use Rattle.wm_control.specs.Moves.{no_variables}
use Rattle.wm_control.proofs.SmallPieces.{none_cleared, some_cleared}
use Rattle.wm_control.proofs.blocks.clear_these.Goals as goal

pub returns-then-is_none : goal.returns-then-is_none
returns-then-is_none c =
    none_cleared (plan_of c.args.plan.now) c.args.scene c.args.variables c.args.temporaries c.args.pen.now (sym (ap (λ (xs : List ℕ). no_variables xs) c.items.ensures.items) ∙ (sym c.is_none.ensures ∙ c.if-is_none.true))

pub returns : goal.returns
returns c =
    c.in_ok-step.ensures
    ∙ (ap (λ (doing : Doing). stepped (plan_of c.args.plan.now) c.args.scene doing None c.args.temporaries c.args.pen.now) c.clear_action-action.ensures
    ∙ some_cleared (plan_of c.args.plan.now) c.args.scene c.args.variables c.args.temporaries c.args.pen.now (sym (ap (λ (xs : List ℕ). no_variables xs) c.items.ensures.items) ∙ (sym c.is_none.ensures ∙ c.if-is_none.false)))
