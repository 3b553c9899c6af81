use Rattle.wm_formed.proofs.pairs.ranged.Goals as goal

pub returns-in-None-clause-made : goal.returns-in-None-clause-made
returns-in-None-clause-made g c = λ was z h. absurd h

pub returns-in-Some-clause-made : goal.returns-in-Some-clause-made
returns-in-Some-clause-made g c = λ was z h. ((c.in-Some.ensures.exact z).0 h).0
