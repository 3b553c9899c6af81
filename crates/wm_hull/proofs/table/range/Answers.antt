use Rattle.std.proofs.Common.{sym, subst}
use Rattle.wm_interval.specs.Holds.{IsHullOf}
use Rattle.wm_hull.specs.Ranges.{IsHull, Result}
use Rattle.wm_hull.proofs.table.range.Goals as goal

pub returns-in-Add : goal.returns-in-Add
returns-in-Add c = subst (λ o. IsHullOf (Result o c.args.x c.args.y c.args.z) c.add.result) (sym c.in-Add.is) (c.add.ensures c.args.z)

pub returns-in-Sub : goal.returns-in-Sub
returns-in-Sub c = subst (λ o. IsHullOf (Result o c.args.x c.args.y c.args.z) c.sub.result) (sym c.in-Sub.is) (c.sub.ensures c.args.z)

pub returns-in-AbsS : goal.returns-in-AbsS
returns-in-AbsS c = subst (λ o. IsHullOf (Result o c.args.x c.args.y c.args.z) c.abs_s.result) (sym c.in-AbsS.is) (c.abs_s.ensures c.args.y c.args.z)

pub returns-in-Negate : goal.returns-in-Negate
returns-in-Negate c = subst (λ o. IsHullOf (Result o c.args.x c.args.y c.args.z) c.negate.result) (sym c.in-Negate.is) (c.negate.ensures c.args.y c.args.z)

pub returns-in-Mult : goal.returns-in-Mult
returns-in-Mult c = subst (λ o. IsHullOf (Result o c.args.x c.args.y c.args.z) c.mult.result) (sym c.in-Mult.is) (c.mult.ensures c.args.z)

pub returns-in-MultR : goal.returns-in-MultR
returns-in-MultR c = subst (λ o. IsHullOf (Result o c.args.x c.args.y c.args.z) c.mult_r.result) (sym c.in-MultR.is) (c.mult_r.ensures c.args.z)

pub returns-in-Shl : goal.returns-in-Shl
returns-in-Shl c = subst (λ o. IsHullOf (Result o c.args.x c.args.y c.args.z) c.shl.result) (sym c.in-Shl.is) (c.shl.ensures c.args.z)

pub returns-in-Shr : goal.returns-in-Shr
returns-in-Shr c = subst (λ o. IsHullOf (Result o c.args.x c.args.y c.args.z) c.shr.result) (sym c.in-Shr.is) (c.shr.ensures c.args.z)

pub returns-in-ShrR : goal.returns-in-ShrR
returns-in-ShrR c = subst (λ o. IsHullOf (Result o c.args.x c.args.y c.args.z) c.shr_r.result) (sym c.in-ShrR.is) (c.shr_r.ensures c.args.z)

pub returns-in-LAdd : goal.returns-in-LAdd
returns-in-LAdd c = subst (λ o. IsHullOf (Result o c.args.x c.args.y c.args.z) c.l_add.result) (sym c.in-LAdd.is) (c.l_add.ensures c.args.z)

pub returns-in-LSub : goal.returns-in-LSub
returns-in-LSub c = subst (λ o. IsHullOf (Result o c.args.x c.args.y c.args.z) c.l_sub.result) (sym c.in-LSub.is) (c.l_sub.ensures c.args.z)

pub returns-in-LAbs : goal.returns-in-LAbs
returns-in-LAbs c = subst (λ o. IsHullOf (Result o c.args.x c.args.y c.args.z) c.l_abs.result) (sym c.in-LAbs.is) (c.l_abs.ensures c.args.y c.args.z)

pub returns-in-LNegate : goal.returns-in-LNegate
returns-in-LNegate c = subst (λ o. IsHullOf (Result o c.args.x c.args.y c.args.z) c.l_negate.result) (sym c.in-LNegate.is) (c.l_negate.ensures c.args.y c.args.z)

pub returns-in-LMult : goal.returns-in-LMult
returns-in-LMult c = subst (λ o. IsHullOf (Result o c.args.x c.args.y c.args.z) c.l_mult.result) (sym c.in-LMult.is) (c.l_mult.ensures c.args.z)

pub returns-in-LShl : goal.returns-in-LShl
returns-in-LShl c = subst (λ o. IsHullOf (Result o c.args.x c.args.y c.args.z) c.l_shl.result) (sym c.in-LShl.is) (c.l_shl.ensures c.args.z)

pub returns-in-LShr : goal.returns-in-LShr
returns-in-LShr c = subst (λ o. IsHullOf (Result o c.args.x c.args.y c.args.z) c.l_shr.result) (sym c.in-LShr.is) (c.l_shr.ensures c.args.z)

pub returns-in-LShrR : goal.returns-in-LShrR
returns-in-LShrR c = subst (λ o. IsHullOf (Result o c.args.x c.args.y c.args.z) c.l_shr_r.result) (sym c.in-LShrR.is) (c.l_shr_r.ensures c.args.z)

pub returns-in-ExtractH : goal.returns-in-ExtractH
returns-in-ExtractH c = subst (λ o. IsHullOf (Result o c.args.x c.args.y c.args.z) c.extract_h.result) (sym c.in-ExtractH.is) (c.extract_h.ensures c.args.y c.args.z)

pub returns-in-ExtractL : goal.returns-in-ExtractL
returns-in-ExtractL c = subst (λ o. IsHullOf (Result o c.args.x c.args.y c.args.z) c.extract_l.result) (sym c.in-ExtractL.is) (c.extract_l.ensures c.args.y c.args.z)

pub returns-in-LDepositH : goal.returns-in-LDepositH
returns-in-LDepositH c = subst (λ o. IsHullOf (Result o c.args.x c.args.y c.args.z) c.l_deposit_h.result) (sym c.in-LDepositH.is) (c.l_deposit_h.ensures c.args.y c.args.z)

pub returns-in-LDepositL : goal.returns-in-LDepositL
returns-in-LDepositL c = subst (λ o. IsHullOf (Result o c.args.x c.args.y c.args.z) c.l_deposit_l.result) (sym c.in-LDepositL.is) (c.l_deposit_l.ensures c.args.y c.args.z)

pub returns-in-Round : goal.returns-in-Round
returns-in-Round c = subst (λ o. IsHullOf (Result o c.args.x c.args.y c.args.z) c.round.result) (sym c.in-Round.is) (c.round.ensures c.args.y c.args.z)

pub returns-in-NormS : goal.returns-in-NormS
returns-in-NormS c = subst (λ o. IsHullOf (Result o c.args.x c.args.y c.args.z) c.norm_s.result) (sym c.in-NormS.is) (c.norm_s.ensures c.args.y c.args.z)

pub returns-in-NormL : goal.returns-in-NormL
returns-in-NormL c = subst (λ o. IsHullOf (Result o c.args.x c.args.y c.args.z) c.norm_l.result) (sym c.in-NormL.is) (c.norm_l.ensures c.args.y c.args.z)

pub returns-in-SMax : goal.returns-in-SMax
returns-in-SMax c = subst (λ o. IsHullOf (Result o c.args.x c.args.y c.args.z) c.s_max.result) (sym c.in-SMax.is) (c.s_max.ensures c.args.z)

pub returns-in-SMin : goal.returns-in-SMin
returns-in-SMin c = subst (λ o. IsHullOf (Result o c.args.x c.args.y c.args.z) c.s_min.result) (sym c.in-SMin.is) (c.s_min.ensures c.args.z)

pub returns-in-LMax : goal.returns-in-LMax
returns-in-LMax c = subst (λ o. IsHullOf (Result o c.args.x c.args.y c.args.z) c.l_max.result) (sym c.in-LMax.is) (c.l_max.ensures c.args.z)

pub returns-in-LMin : goal.returns-in-LMin
returns-in-LMin c = subst (λ o. IsHullOf (Result o c.args.x c.args.y c.args.z) c.l_min.result) (sym c.in-LMin.is) (c.l_min.ensures c.args.z)

pub returns-in-LMult0 : goal.returns-in-LMult0
returns-in-LMult0 c = subst (λ o. IsHullOf (Result o c.args.x c.args.y c.args.z) c.l_mult0.result) (sym c.in-LMult0.is) (c.l_mult0.ensures c.args.z)

pub returns-in-DivS : goal.returns-in-DivS
returns-in-DivS c = subst (λ o. IsHull o c.args.x c.args.y c.args.z c.div_s.result) (sym c.in-DivS.is) (c.div_s.ensures c.args.z)
