use Rattle.std.proofs.Common.{◌∙◌, sym}
use Rattle.std.proofs.lemmas.Result.{IfOk-weaker}
use Rattle.wm_places.specs.Seen.{plan_of}
use Rattle.wm_values.proofs.ExpressionsDrawn.{on_operator_is}
use Rattle.wm_values.proofs.trees.+expression.Goals as goal

pub expression-returns-in-Operator-clause-value : goal.expression-returns-in-Operator-clause-value
expression-returns-in-Operator-clause-value t c =
    IfOk-weaker c.operator.result _ _ (λ kept h. h ∙ sym (on_operator_is (plan_of c.args.plan.now) c.args.scene c.args.x.now c.in-Operator.op c.in-Operator.arguments c.in-Operator.site c.args.temporaries c.in-Operator.is)) c.operator.ensures.value
