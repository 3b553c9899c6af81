use Rattle.wm_coming.proofs.Chains.{chain_calls_then, chain_calls_else}
use Rattle.wm_coming.proofs.functions.+calls.Goals as goal

pub calls-returns-then-calls : goal.calls-returns-then-calls
calls-returns-then-calls t c =
    chain_calls_then c.args.x.now c.in-Chain.first c.in-Chain.rest c.calls-in-Chain.result c.in-Chain.is
    (rw c.get-in-Chain.ensures at c.calls-in-Chain.ensures) c.if-calls.true

pub calls-returns-else-calls : goal.calls-returns-else-calls
calls-returns-else-calls t c =
    chain_calls_else c.args.x.now c.in-Chain.first c.in-Chain.rest c.calls-in-Chain.result c.calls_links.result c.in-Chain.is
    (rw c.get-in-Chain.ensures at c.calls-in-Chain.ensures) c.if-calls.false c.calls_links.ensures
