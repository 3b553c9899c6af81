use Rattle.wm_quotient.proofs.quotients.quotient.Goals as goal

pub returns-in-Some-operand-clause-allowed : goal.returns-in-Some-operand-clause-allowed
returns-in-Some-operand-clause-allowed g c = λ was z i.
    let x = c.in-Some.ensures.operand in
    let y = c.in-Some-operand.ensures.operand in
    c.kept.ensures.allowed was z
    (c.quotients.ensures i.a i.b i.c i.d z (x.all i.a i.a_in) (y.all i.b i.b_in) (x.all i.c i.c_in) (y.all i.d i.d_in) i.above i.below i.fits) i.fits
