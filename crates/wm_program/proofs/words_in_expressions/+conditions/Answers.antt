use Rattle.wm_program.proofs.Chains.{or_found, and_found}
use Rattle.wm_program.proofs.words_in_expressions.+conditions.Goals as goal

pub in_condition-returns-in-Or : goal.in_condition-returns-in-Or
in_condition-returns-in-Or t c =
    or_found c.args.word c.args.condition.now c.in-Or.first c.in-Or.rest c.args.found c.in_condition-found.result c.in_conditions.result c.in-Or.is
    (rw c.get.ensures at c.in_condition-found.ensures) c.in_conditions.ensures

pub in_condition-returns-in-And : goal.in_condition-returns-in-And
in_condition-returns-in-And t c =
    and_found c.args.word c.args.condition.now c.in-And.first c.in-And.rest c.args.found c.in_condition-found-in-And.result c.in_conditions-in-And.result c.in-And.is
    (rw c.get-in-And.ensures at c.in_condition-found-in-And.ensures) c.in_conditions-in-And.ensures
