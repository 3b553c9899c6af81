use Rattle.std.proofs.Common.{◌≡◌, map}
use Rattle.std.proofs.lemmas.Result.{IfOk-weaker}
use Rattle.wm_proving.specs.Worst.{AreWorst, choice_in}
use Rattle.wm_proving.proofs.Choosing.{are_worst}
use Rattle.wm_proving.proofs.choices.worst_choices.Goals as goal

pub returns-clause-worst : goal.returns-clause-worst
returns-clause-worst g c =
    let graph = c.args.proof.now.graph in
    let weights = c.args.weights.now in
    IfOk-weaker c.choices_by.result
    (λ choices. choices.items ≡ map (choice_in graph weights c.in_ok-told.told) c.as_slice.result.now)
    (λ choices. AreWorst graph weights choices.items)
    (λ choices is. are_worst graph weights c.in_ok-told.told c.as_slice.result.now choices.items is)
    c.choices_by.ensures.choices
