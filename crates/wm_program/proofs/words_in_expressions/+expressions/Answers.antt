use Rattle.wm_program.proofs.Chains.{chain_found}
use Rattle.wm_program.proofs.words_in_expressions.+expressions.Goals as goal

pub in_expression-returns-in-Chain : goal.in_expression-returns-in-Chain
in_expression-returns-in-Chain t c =
    chain_found c.args.word c.args.x.now c.in-Chain.first c.in-Chain.rest c.args.found c.in_expression-found.result c.in_links.result c.in-Chain.is
    (rw c.get-in-Chain.ensures at c.in_expression-found.ensures) c.in_links.ensures
