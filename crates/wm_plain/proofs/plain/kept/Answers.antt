use Rattle.wm_plain.proofs.Operands.{none_kept, some_kept, only_kept, kept_sized}
use Rattle.wm_plain.proofs.plain.kept.Goals as goal

pub returns-in-None-clause-allowed : goal.returns-in-None-clause-allowed
returns-in-None-clause-allowed c = λ was z h w. none_kept c.args.results c.new-all.result z c.new-all.ensures.low c.new-all.ensures.high c.in-None.ensures.common h w

pub returns-in-Some-clause-allowed : goal.returns-in-Some-clause-allowed
returns-in-Some-clause-allowed c = λ was z h w. some_kept c.args.results c.new-all.result c.in-Some.r z c.new-all.ensures.low c.new-all.ensures.high c.in-Some.ensures.each h w

pub returns-in-Some-clause-fit : goal.returns-in-Some-clause-fit
returns-in-Some-clause-fit c = λ s t v. kept_sized c.args.results c.new-all.result c.in-Some.r c.new-all.ensures.low c.new-all.ensures.high c.in-Some.ensures.each

pub returns-in-None-clause-made : goal.returns-in-None-clause-made
returns-in-None-clause-made c = λ was z h. absurd h

pub returns-in-Some-clause-made : goal.returns-in-Some-clause-made
returns-in-Some-clause-made c = λ was z h. only_kept c.args.results c.new-all.result c.in-Some.r z c.new-all.ensures.low c.new-all.ensures.high c.in-Some.ensures.each h
