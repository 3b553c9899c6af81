-- What the row list tells of each operator: its number, its name and its widths.
use Rattle.std.specs.Prelude.{ℕ, List, [], ◌∷◌, Option, slice_get, codes}
use Rattle.wm_ops.specs.declared.operators.Op.{Op}
use Rattle.wm_ops.specs.declared.operators.Op.TheVariants.{Add, Sub, AbsS, Negate, Mult, MultR, Shl, Shr, ShrR, LAdd, LSub, LAbs, LNegate, LMult, LMac, LMsu, LShl, LShr, LShrR, ExtractH, ExtractL, LDepositH, LDepositL, Round, MacR, MsuR, NormS, NormL, DivS, SMax, SMin, LMax, LMin, LMult0, LMac0, LMsu0}
use Rattle.wm_ops.specs.declared.operators.Width.{Width}
use Rattle.wm_ops.specs.declared.operators.Width.TheVariants.{W16, W32}

-- the operators in the order of G.191
abbrev pub all_ops : List Op
all_ops =
    Add ∷ Sub ∷ AbsS ∷ Negate ∷ Mult ∷ MultR ∷ Shl ∷ Shr ∷ ShrR ∷ LAdd ∷ LSub ∷ LAbs ∷ LNegate ∷ LMult ∷ LMac ∷ LMsu ∷ LShl ∷ LShr ∷ LShrR ∷ ExtractH ∷ ExtractL ∷ LDepositH ∷ LDepositL ∷ Round ∷ MacR ∷ MsuR ∷ NormS ∷ NormL ∷ DivS ∷ SMax ∷ SMin ∷ LMax ∷ LMin ∷ LMult0 ∷ LMac0 ∷ LMsu0 ∷ []

-- the place of an operator in that order, from 0
abbrev pub number_of : Op → ℕ
number_of Add = 0
number_of Sub = 1
number_of AbsS = 2
number_of Negate = 3
number_of Mult = 4
number_of MultR = 5
number_of Shl = 6
number_of Shr = 7
number_of ShrR = 8
number_of LAdd = 9
number_of LSub = 10
number_of LAbs = 11
number_of LNegate = 12
number_of LMult = 13
number_of LMac = 14
number_of LMsu = 15
number_of LShl = 16
number_of LShr = 17
number_of LShrR = 18
number_of ExtractH = 19
number_of ExtractL = 20
number_of LDepositH = 21
number_of LDepositL = 22
number_of Round = 23
number_of MacR = 24
number_of MsuR = 25
number_of NormS = 26
number_of NormL = 27
number_of DivS = 28
number_of SMax = 29
number_of SMin = 30
number_of LMax = 31
number_of LMin = 32
number_of LMult0 = 33
number_of LMac0 = 34
number_of LMsu0 = 35

-- the operator at a place; none past the end
abbrev pub op_numbered : ℕ → Option Op
op_numbered k = slice_get all_ops k

-- the C name
abbrev pub name_of : Op → List ℕ
name_of Add = codes "add"
name_of Sub = codes "sub"
name_of AbsS = codes "abs_s"
name_of Negate = codes "negate"
name_of Mult = codes "mult"
name_of MultR = codes "mult_r"
name_of Shl = codes "shl"
name_of Shr = codes "shr"
name_of ShrR = codes "shr_r"
name_of LAdd = codes "L_add"
name_of LSub = codes "L_sub"
name_of LAbs = codes "L_abs"
name_of LNegate = codes "L_negate"
name_of LMult = codes "L_mult"
name_of LMac = codes "L_mac"
name_of LMsu = codes "L_msu"
name_of LShl = codes "L_shl"
name_of LShr = codes "L_shr"
name_of LShrR = codes "L_shr_r"
name_of ExtractH = codes "extract_h"
name_of ExtractL = codes "extract_l"
name_of LDepositH = codes "L_deposit_h"
name_of LDepositL = codes "L_deposit_l"
name_of Round = codes "round"
name_of MacR = codes "mac_r"
name_of MsuR = codes "msu_r"
name_of NormS = codes "norm_s"
name_of NormL = codes "norm_l"
name_of DivS = codes "div_s"
name_of SMax = codes "s_max"
name_of SMin = codes "s_min"
name_of LMax = codes "L_max"
name_of LMin = codes "L_min"
name_of LMult0 = codes "L_mult0"
name_of LMac0 = codes "L_mac0"
name_of LMsu0 = codes "L_msu0"

-- the types of the arguments in order
abbrev pub arg_widths_of : Op → List Width
arg_widths_of Add = W16 ∷ W16 ∷ []
arg_widths_of Sub = W16 ∷ W16 ∷ []
arg_widths_of AbsS = W16 ∷ []
arg_widths_of Negate = W16 ∷ []
arg_widths_of Mult = W16 ∷ W16 ∷ []
arg_widths_of MultR = W16 ∷ W16 ∷ []
arg_widths_of Shl = W16 ∷ W16 ∷ []
arg_widths_of Shr = W16 ∷ W16 ∷ []
arg_widths_of ShrR = W16 ∷ W16 ∷ []
arg_widths_of LAdd = W32 ∷ W32 ∷ []
arg_widths_of LSub = W32 ∷ W32 ∷ []
arg_widths_of LAbs = W32 ∷ []
arg_widths_of LNegate = W32 ∷ []
arg_widths_of LMult = W16 ∷ W16 ∷ []
arg_widths_of LMac = W32 ∷ W16 ∷ W16 ∷ []
arg_widths_of LMsu = W32 ∷ W16 ∷ W16 ∷ []
arg_widths_of LShl = W32 ∷ W16 ∷ []
arg_widths_of LShr = W32 ∷ W16 ∷ []
arg_widths_of LShrR = W32 ∷ W16 ∷ []
arg_widths_of ExtractH = W32 ∷ []
arg_widths_of ExtractL = W32 ∷ []
arg_widths_of LDepositH = W16 ∷ []
arg_widths_of LDepositL = W16 ∷ []
arg_widths_of Round = W32 ∷ []
arg_widths_of MacR = W32 ∷ W16 ∷ W16 ∷ []
arg_widths_of MsuR = W32 ∷ W16 ∷ W16 ∷ []
arg_widths_of NormS = W16 ∷ []
arg_widths_of NormL = W32 ∷ []
arg_widths_of DivS = W16 ∷ W16 ∷ []
arg_widths_of SMax = W16 ∷ W16 ∷ []
arg_widths_of SMin = W16 ∷ W16 ∷ []
arg_widths_of LMax = W32 ∷ W32 ∷ []
arg_widths_of LMin = W32 ∷ W32 ∷ []
arg_widths_of LMult0 = W16 ∷ W16 ∷ []
arg_widths_of LMac0 = W32 ∷ W16 ∷ W16 ∷ []
arg_widths_of LMsu0 = W32 ∷ W16 ∷ W16 ∷ []

-- how many arguments there are
abbrev pub arity_of : Op → ℕ
arity_of Add = 2
arity_of Sub = 2
arity_of AbsS = 1
arity_of Negate = 1
arity_of Mult = 2
arity_of MultR = 2
arity_of Shl = 2
arity_of Shr = 2
arity_of ShrR = 2
arity_of LAdd = 2
arity_of LSub = 2
arity_of LAbs = 1
arity_of LNegate = 1
arity_of LMult = 2
arity_of LMac = 3
arity_of LMsu = 3
arity_of LShl = 2
arity_of LShr = 2
arity_of LShrR = 2
arity_of ExtractH = 1
arity_of ExtractL = 1
arity_of LDepositH = 1
arity_of LDepositL = 1
arity_of Round = 1
arity_of MacR = 3
arity_of MsuR = 3
arity_of NormS = 1
arity_of NormL = 1
arity_of DivS = 2
arity_of SMax = 2
arity_of SMin = 2
arity_of LMax = 2
arity_of LMin = 2
arity_of LMult0 = 2
arity_of LMac0 = 3
arity_of LMsu0 = 3

-- the type of the result
abbrev pub result_width_of : Op → Width
result_width_of Add = W16
result_width_of Sub = W16
result_width_of AbsS = W16
result_width_of Negate = W16
result_width_of Mult = W16
result_width_of MultR = W16
result_width_of Shl = W16
result_width_of Shr = W16
result_width_of ShrR = W16
result_width_of LAdd = W32
result_width_of LSub = W32
result_width_of LAbs = W32
result_width_of LNegate = W32
result_width_of LMult = W32
result_width_of LMac = W32
result_width_of LMsu = W32
result_width_of LShl = W32
result_width_of LShr = W32
result_width_of LShrR = W32
result_width_of ExtractH = W16
result_width_of ExtractL = W16
result_width_of LDepositH = W32
result_width_of LDepositL = W32
result_width_of Round = W16
result_width_of MacR = W16
result_width_of MsuR = W16
result_width_of NormS = W16
result_width_of NormL = W16
result_width_of DivS = W16
result_width_of SMax = W16
result_width_of SMin = W16
result_width_of LMax = W32
result_width_of LMin = W32
result_width_of LMult0 = W32
result_width_of LMac0 = W32
result_width_of LMsu0 = W32
