use Rattle.std.proofs.Common.{subst, sym}
use Rattle.wm_ops.specs.Outcomes.{fails_of}
use Rattle.wm_ops.specs.declared.operators.Op.{Op}
use Rattle.wm_ops.specs.declared.operators.Op.TheVariants.{Add, Sub, AbsS, Negate, Mult, MultR, Shl, Shr, ShrR, LAdd, LSub, LAbs, LNegate, LMult, LMac, LMsu, LShl, LShr, LShrR, ExtractH, ExtractL, LDepositH, LDepositL, Round, MacR, MsuR, NormS, NormL, SMax, SMin, LMax, LMin, LMult0, LMac0, LMsu0}
use Rattle.wm_hull.specs.Failures.{TellsWhether}
use Rattle.wm_hull.proofs.Telling.{tells_either}
use Rattle.wm_hull.proofs.Failing.{told_of, never_of, abs_s_test, add_test, extract_h_never, extract_l_never, l_abs_test, l_add_test, l_deposit_h_never, l_deposit_l_never, l_mac0_test, l_mac_test, l_max_never, l_min_never, l_msu0_test, l_msu_test, l_mult0_never, l_mult_test, l_negate_test, l_shl_test, l_shr_r_test, l_shr_test, l_sub_test, mac_r_test, msu_r_test, mult_r_test, mult_test, negate_test, norm_l_never, norm_s_never, round_test, s_max_never, s_min_never, shl_test, shr_r_test, shr_test, sub_test, told_by}
use Rattle.wm_hull.proofs.failures.fails.Goals as goal

pub returns-in-Add : goal.returns-in-Add
returns-in-Add c = told_of c.args.op Add _ c.args.x c.args.y c.args.z _ c.in-Add.is add_test (c.sums_leave16.ensures c.args.z)

pub returns-in-Sub : goal.returns-in-Sub
returns-in-Sub c = told_of c.args.op Sub _ c.args.x c.args.y c.args.z _ c.in-Sub.is sub_test (c.differences_leave16.ensures c.args.z)

pub returns-in-AbsS : goal.returns-in-AbsS
returns-in-AbsS c = told_of c.args.op AbsS _ c.args.x c.args.y c.args.z _ c.in-AbsS.is abs_s_test (c.sizes_leave16.ensures c.args.y c.args.z)

pub returns-in-Negate : goal.returns-in-Negate
returns-in-Negate c = told_of c.args.op Negate _ c.args.x c.args.y c.args.z _ c.in-Negate.is negate_test (c.opposites_leave16.ensures c.args.y c.args.z)

pub returns-in-Mult : goal.returns-in-Mult
returns-in-Mult c = told_of c.args.op Mult _ c.args.x c.args.y c.args.z _ c.in-Mult.is mult_test (c.fractions_leave.ensures c.args.z)

pub returns-in-MultR : goal.returns-in-MultR
returns-in-MultR c = told_of c.args.op MultR _ c.args.x c.args.y c.args.z _ c.in-MultR.is mult_r_test (c.rounded_fractions_leave.ensures c.args.z)

pub returns-in-Shl : goal.returns-in-Shl
returns-in-Shl c = told_of c.args.op Shl _ c.args.x c.args.y c.args.z _ c.in-Shl.is shl_test (c.lefts_leave16.ensures c.args.z)

pub returns-in-Shr : goal.returns-in-Shr
returns-in-Shr c = told_of c.args.op Shr _ c.args.x c.args.y c.args.z _ c.in-Shr.is shr_test (c.rights_leave16.ensures.down c.args.z)

pub returns-in-ShrR : goal.returns-in-ShrR
returns-in-ShrR c = told_of c.args.op ShrR _ c.args.x c.args.y c.args.z _ c.in-ShrR.is shr_r_test (c.rights_leave16-in-ShrR.ensures.rounded c.args.z)

pub returns-in-LAdd : goal.returns-in-LAdd
returns-in-LAdd c = told_of c.args.op LAdd _ c.args.x c.args.y c.args.z _ c.in-LAdd.is l_add_test (c.sums_leave32.ensures c.args.z)

pub returns-in-LSub : goal.returns-in-LSub
returns-in-LSub c = told_of c.args.op LSub _ c.args.x c.args.y c.args.z _ c.in-LSub.is l_sub_test (c.differences_leave32.ensures c.args.z)

pub returns-in-LAbs : goal.returns-in-LAbs
returns-in-LAbs c = told_of c.args.op LAbs _ c.args.x c.args.y c.args.z _ c.in-LAbs.is l_abs_test (c.sizes_leave32.ensures c.args.y c.args.z)

pub returns-in-LNegate : goal.returns-in-LNegate
returns-in-LNegate c = told_of c.args.op LNegate _ c.args.x c.args.y c.args.z _ c.in-LNegate.is l_negate_test (c.opposites_leave32.ensures c.args.y c.args.z)

pub returns-in-LMult : goal.returns-in-LMult
returns-in-LMult c = told_of c.args.op LMult _ c.args.x c.args.y c.args.z _ c.in-LMult.is l_mult_test (c.doubles_leave.ensures c.args.z)

pub returns-in-LMac : goal.returns-in-LMac
returns-in-LMac c = told_of c.args.op LMac _ c.args.x c.args.y c.args.z _ c.in-LMac.is l_mac_test c.sum_fails.ensures

pub returns-in-LMsu : goal.returns-in-LMsu
returns-in-LMsu c = told_of c.args.op LMsu _ c.args.x c.args.y c.args.z _ c.in-LMsu.is l_msu_test c.difference_fails.ensures

pub returns-in-LShl : goal.returns-in-LShl
returns-in-LShl c = told_of c.args.op LShl _ c.args.x c.args.y c.args.z _ c.in-LShl.is l_shl_test (c.lefts_leave32.ensures c.args.z)

pub returns-in-LShr : goal.returns-in-LShr
returns-in-LShr c = told_of c.args.op LShr _ c.args.x c.args.y c.args.z _ c.in-LShr.is l_shr_test (c.rights_leave32.ensures.down c.args.z)

pub returns-in-LShrR : goal.returns-in-LShrR
returns-in-LShrR c = told_of c.args.op LShrR _ c.args.x c.args.y c.args.z _ c.in-LShrR.is l_shr_r_test (c.rights_leave32-in-LShrR.ensures.rounded c.args.z)

pub returns-in-ExtractH : goal.returns-in-ExtractH
returns-in-ExtractH c = never_of c.args.op ExtractH c.args.x c.args.y c.args.z c.in-ExtractH.is extract_h_never

pub returns-in-ExtractL : goal.returns-in-ExtractL
returns-in-ExtractL c = never_of c.args.op ExtractL c.args.x c.args.y c.args.z c.in-ExtractL.is extract_l_never

pub returns-in-LDepositH : goal.returns-in-LDepositH
returns-in-LDepositH c = never_of c.args.op LDepositH c.args.x c.args.y c.args.z c.in-LDepositH.is l_deposit_h_never

pub returns-in-LDepositL : goal.returns-in-LDepositL
returns-in-LDepositL c = never_of c.args.op LDepositL c.args.x c.args.y c.args.z c.in-LDepositL.is l_deposit_l_never

pub returns-in-Round : goal.returns-in-Round
returns-in-Round c = told_of c.args.op Round _ c.args.x c.args.y c.args.z _ c.in-Round.is round_test (c.roundings_leave.ensures c.args.y c.args.z)

pub returns-in-MacR : goal.returns-in-MacR
returns-in-MacR c =
    told_of c.args.op MacR _ c.args.x c.args.y c.args.z _ c.in-MacR.is mac_r_test
    (told_by _ c.args.x c.args.y c.args.z _ _ c.either.ensures (tells_either _ _ c.args.x c.args.y c.args.z _ _ c.sum_fails-in-MacR.ensures c.rounded_sum_fails.ensures))

pub returns-in-MsuR : goal.returns-in-MsuR
returns-in-MsuR c =
    told_of c.args.op MsuR _ c.args.x c.args.y c.args.z _ c.in-MsuR.is msu_r_test
    (told_by _ c.args.x c.args.y c.args.z _ _ c.either-in-MsuR.ensures (tells_either _ _ c.args.x c.args.y c.args.z _ _ c.difference_fails-in-MsuR.ensures c.rounded_difference_fails.ensures))

pub returns-in-NormS : goal.returns-in-NormS
returns-in-NormS c = never_of c.args.op NormS c.args.x c.args.y c.args.z c.in-NormS.is norm_s_never

pub returns-in-NormL : goal.returns-in-NormL
returns-in-NormL c = never_of c.args.op NormL c.args.x c.args.y c.args.z c.in-NormL.is norm_l_never

pub returns-in-DivS : goal.returns-in-DivS
returns-in-DivS c =
    let P : Op → Type 0 = λ o. TellsWhether c.leaves_domain.result (fails_of o) c.args.x c.args.y c.args.z in
    subst P (sym c.in-DivS.is) (c.leaves_domain.ensures c.args.z)

pub returns-in-SMax : goal.returns-in-SMax
returns-in-SMax c = never_of c.args.op SMax c.args.x c.args.y c.args.z c.in-SMax.is s_max_never

pub returns-in-SMin : goal.returns-in-SMin
returns-in-SMin c = never_of c.args.op SMin c.args.x c.args.y c.args.z c.in-SMin.is s_min_never

pub returns-in-LMax : goal.returns-in-LMax
returns-in-LMax c = never_of c.args.op LMax c.args.x c.args.y c.args.z c.in-LMax.is l_max_never

pub returns-in-LMin : goal.returns-in-LMin
returns-in-LMin c = never_of c.args.op LMin c.args.x c.args.y c.args.z c.in-LMin.is l_min_never

pub returns-in-LMult0 : goal.returns-in-LMult0
returns-in-LMult0 c = never_of c.args.op LMult0 c.args.x c.args.y c.args.z c.in-LMult0.is l_mult0_never

pub returns-in-LMac0 : goal.returns-in-LMac0
returns-in-LMac0 c = told_of c.args.op LMac0 _ c.args.x c.args.y c.args.z _ c.in-LMac0.is l_mac0_test c.products_added_leave.ensures

pub returns-in-LMsu0 : goal.returns-in-LMsu0
returns-in-LMsu0 c = told_of c.args.op LMsu0 _ c.args.x c.args.y c.args.z _ c.in-LMsu0.is l_msu0_test c.products_taken_leave.ensures
