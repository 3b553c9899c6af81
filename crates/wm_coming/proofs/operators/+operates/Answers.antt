use Rattle.wm_coming.proofs.Chains.{chain_operates_then, chain_operates_else}
use Rattle.wm_coming.proofs.operators.+operates.Goals as goal

pub operates-returns-then-operates : goal.operates-returns-then-operates
operates-returns-then-operates t c =
    chain_operates_then c.args.x.now c.in-Chain.first c.in-Chain.rest c.operates-in-Chain.result c.in-Chain.is
    (rw c.get-in-Chain.ensures at c.operates-in-Chain.ensures) c.if-operates.true

pub operates-returns-else-operates : goal.operates-returns-else-operates
operates-returns-else-operates t c =
    chain_operates_else c.args.x.now c.in-Chain.first c.in-Chain.rest c.operates-in-Chain.result c.operates_links.result c.in-Chain.is
    (rw c.get-in-Chain.ensures at c.operates-in-Chain.ensures) c.if-operates.false c.operates_links.ensures
