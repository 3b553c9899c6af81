use Rattle.wm_stepped.proofs.computing.computed.Goals as goal

pub set-requires-clause-fit : goal.set-requires-clause-fit
set-requires-clause-fit g c = c.results-value.ensures.fit c.args.way.now.source.now c.args.way.now.target.now c.args.target
