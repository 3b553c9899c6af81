use Rattle.std.specs.Prelude.{◌*ℤ◌}
use Rattle.wm_plain.proofs.Operands.{in_results, made_results}
use Rattle.wm_plain.proofs.plain.product.Goals as goal

pub returns-in-None-clause-allowed : goal.returns-in-None-clause-allowed
returns-in-None-clause-allowed g c = λ was z i. c.in-None.ensures.operand i.a i.a_in

pub returns-in-None-operand-clause-allowed : goal.returns-in-None-operand-clause-allowed
returns-in-None-operand-clause-allowed g c = λ was z i. c.in-None-operand.ensures.operand i.b i.b_in

pub returns-in-Some-operand-clause-allowed : goal.returns-in-Some-operand-clause-allowed
returns-in-Some-operand-clause-allowed g c = λ was z i.
    c.kept.ensures.allowed was z (in_results (g.D.Domain.holds c.args.at.now) ◌*ℤ◌ c.args.f.now c.args.g.now c.in-Some.x c.in-Some-operand.y c.mul.result c.in-Some.ensures.operand c.in-Some-operand.ensures.operand c.mul.ensures.least z i) i.fits

pub returns-in-None-clause-made : goal.returns-in-None-clause-made
returns-in-None-clause-made g c = λ was z h. absurd h

pub returns-in-None-operand-clause-made : goal.returns-in-None-operand-clause-made
returns-in-None-operand-clause-made g c = λ was z h. absurd h

pub returns-in-Some-operand-clause-made : goal.returns-in-Some-operand-clause-made
returns-in-Some-operand-clause-made g c = λ was z h.
    made_results (g.D.Domain.holds c.args.at.now) ◌*ℤ◌ c.args.f.now c.args.g.now c.in-Some.x c.in-Some-operand.y c.mul.result c.in-Some.ensures.operand c.in-Some-operand.ensures.operand c.mul.ensures.least z (c.kept.ensures.made was z h)
