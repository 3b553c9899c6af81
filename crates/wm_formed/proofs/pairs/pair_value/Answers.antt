use Rattle.wm_formed.proofs.pairs.pair_value.Goals as goal

pub returns-clause-fit : goal.returns-clause-fit
returns-clause-fit g c = λ s t v e seen. c.ranged.ensures.fit s t v
