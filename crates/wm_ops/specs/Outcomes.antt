-- What each operator is: its formula, its domain, and whether it flags what it saturates.
use Rattle.std.specs.Prelude.{ℤ, Bool, true, false, ◌||◌, ◌&&◌, not, if◌then◌else◌}
use Rattle.wm_ops.specs.declared.operators.Op.{Op}
use Rattle.wm_ops.specs.declared.operators.Op.TheVariants.{Add, Sub, AbsS, Negate, Mult, MultR, Shl, Shr, ShrR, LAdd, LSub, LAbs, LNegate, LMult, LMac, LMsu, LShl, LShr, LShrR, ExtractH, ExtractL, LDepositH, LDepositL, Round, MacR, MsuR, NormS, NormL, DivS, SMax, SMin, LMax, LMin, LMult0, LMac0, LMsu0}
use Rattle.wm_ops.specs.Operators.{result_width_of}
use Rattle.wm_ops.specs.Arguments.{HasWidth}
use Rattle.wm_ops.specs.declared.clamping.Clamped.{Clamped}
use Rattle.wm_ops.specs.declared.outcomes.Outcome.{Outcome}
use Rattle.wm_ops.specs.declared.outcomes.Outcome.TheVariants.{Value, OutOfDomain}
use Rattle.wm_ops.specs.Sums.{add_of, sub_of, abs_s_of, negate_of, l_add_of, l_sub_of, l_abs_of, l_negate_of}
use Rattle.wm_ops.specs.Products.{mult_of, mult_r_of, l_mult_of, l_mult0_of, l_mac_of, l_msu_of, l_mac0_of, l_msu0_of}
use Rattle.wm_ops.specs.Shifts.{shl_of, shr_of, shr_r_of, l_shl_of, l_shr_of, l_shr_r_of}
use Rattle.wm_ops.specs.Parts.{extract_h_of, extract_l_of, l_deposit_h_of, l_deposit_l_of, round_of, mac_r_of, msu_r_of}
use Rattle.wm_ops.specs.Norms.{norm_s_of, norm_l_of}
use Rattle.wm_ops.specs.Choices.{max_of, min_of}
use Rattle.wm_ops.specs.Division.{div_s_of, is_quotient}

-- the formula of an operator at its arguments; those that it does not take are ignored, and of div_s it is looked at in
-- the domain alone
unfoldable pub formula_of : Op → ℤ → ℤ → ℤ → Clamped
formula_of Add a b c = add_of a b
formula_of Sub a b c = sub_of a b
formula_of AbsS a b c = abs_s_of a
formula_of Negate a b c = negate_of a
formula_of Mult a b c = mult_of a b
formula_of MultR a b c = mult_r_of a b
formula_of Shl a b c = shl_of a b
formula_of Shr a b c = shr_of a b
formula_of ShrR a b c = shr_r_of a b
formula_of LAdd a b c = l_add_of a b
formula_of LSub a b c = l_sub_of a b
formula_of LAbs a b c = l_abs_of a
formula_of LNegate a b c = l_negate_of a
formula_of LMult a b c = l_mult_of a b
formula_of LMac a b c = l_mac_of a b c
formula_of LMsu a b c = l_msu_of a b c
formula_of LShl a b c = l_shl_of a b
formula_of LShr a b c = l_shr_of a b
formula_of LShrR a b c = l_shr_r_of a b
formula_of ExtractH a b c = extract_h_of a
formula_of ExtractL a b c = extract_l_of a
formula_of LDepositH a b c = l_deposit_h_of a
formula_of LDepositL a b c = l_deposit_l_of a
formula_of Round a b c = round_of a
formula_of MacR a b c = mac_r_of a b c
formula_of MsuR a b c = msu_r_of a b c
formula_of NormS a b c = norm_s_of a
formula_of NormL a b c = norm_l_of a
formula_of DivS a b c = div_s_of a b
formula_of SMax a b c = max_of a b
formula_of SMin a b c = min_of a b
formula_of LMax a b c = max_of a b
formula_of LMin a b c = min_of a b
formula_of LMult0 a b c = l_mult0_of a b
formula_of LMac0 a b c = l_mac0_of a b c
formula_of LMsu0 a b c = l_msu0_of a b c

-- the arguments are in the operator's domain: all operators but div_s take all arguments of their types
unfoldable pub in_domain : Op → ℤ → ℤ → Bool
in_domain Add a b = true
in_domain Sub a b = true
in_domain AbsS a b = true
in_domain Negate a b = true
in_domain Mult a b = true
in_domain MultR a b = true
in_domain Shl a b = true
in_domain Shr a b = true
in_domain ShrR a b = true
in_domain LAdd a b = true
in_domain LSub a b = true
in_domain LAbs a b = true
in_domain LNegate a b = true
in_domain LMult a b = true
in_domain LMac a b = true
in_domain LMsu a b = true
in_domain LShl a b = true
in_domain LShr a b = true
in_domain LShrR a b = true
in_domain ExtractH a b = true
in_domain ExtractL a b = true
in_domain LDepositH a b = true
in_domain LDepositL a b = true
in_domain Round a b = true
in_domain MacR a b = true
in_domain MsuR a b = true
in_domain NormS a b = true
in_domain NormL a b = true
in_domain DivS a b = is_quotient a b
in_domain SMax a b = true
in_domain SMin a b = true
in_domain LMax a b = true
in_domain LMin a b = true
in_domain LMult0 a b = true
in_domain LMac0 a b = true
in_domain LMsu0 a b = true

-- the operator saturates and never sets the flag
unfoldable pub is_quiet : Op → Bool
is_quiet Add = false
is_quiet Sub = false
is_quiet AbsS = true
is_quiet Negate = true
is_quiet Mult = false
is_quiet MultR = false
is_quiet Shl = false
is_quiet Shr = false
is_quiet ShrR = false
is_quiet LAdd = false
is_quiet LSub = false
is_quiet LAbs = true
is_quiet LNegate = true
is_quiet LMult = false
is_quiet LMac = false
is_quiet LMsu = false
is_quiet LShl = false
is_quiet LShr = false
is_quiet LShrR = false
is_quiet ExtractH = false
is_quiet ExtractL = false
is_quiet LDepositH = false
is_quiet LDepositL = false
is_quiet Round = false
is_quiet MacR = false
is_quiet MsuR = false
is_quiet NormS = false
is_quiet NormL = false
is_quiet DivS = false
is_quiet SMax = false
is_quiet SMin = false
is_quiet LMax = false
is_quiet LMin = false
is_quiet LMult0 = false
is_quiet LMac0 = false
is_quiet LMsu0 = false

-- the result of an operator at arguments of its domain
abbrev pub value_of : Op → ℤ → ℤ → ℤ → ℤ
value_of op a b c = (formula_of op a b c).value

-- some clamp of the formula changes its number
abbrev pub saturates_of : Op → ℤ → ℤ → ℤ → Bool
saturates_of op a b c = (formula_of op a b c).changed

-- the operator saturates, and is not one of the quiet ones
abbrev pub flags_of : Op → ℤ → ℤ → ℤ → Bool
flags_of op a b c = saturates_of op a b c && not (is_quiet op)

-- the operator at its arguments
unfoldable pub outcome_of : Op → ℤ → ℤ → ℤ → Outcome
outcome_of op a b c =
    if in_domain op a b
    then Value (value_of op a b c) (saturates_of op a b c) (flags_of op a b c)
    else OutOfDomain

-- the operator fails at its arguments: it saturates, or they are outside its domain
abbrev pub fails_of : Op → ℤ → ℤ → ℤ → Bool
fails_of op a b c = not (in_domain op a b) || saturates_of op a b c

-- the value of an outcome lies in the type of the operator's result
abbrev pub OutcomeFits : Op → Outcome → Type 0
OutcomeFits op (Value value saturates flag) = HasWidth (result_width_of op) value
OutcomeFits op OutOfDomain = Unit {0}
