-- What an operator gives lies in the type of its result, and nothing is given exactly outside the domain of div_s.
use Rattle.std.proofs.Common.{◌≡◌, arith, ℕ, zero, suc, ◌≤◌, ℤ, pos, negsuc, ◌*ℤ◌, neg_ℤ, Bool, true, false, cond, IsTrue, refl, sym, ◌∙◌, subst}
use Rattle.std.proofs.lemmas.Int.{ints}
use Rattle.wm_numbers.specs.Within.{IsWord16, IsWord32}
use Rattle.wm_ops.specs.declared.operators.Op.{Op}
use Rattle.wm_ops.specs.declared.operators.Op.TheVariants.{Add, Sub, AbsS, Negate, Mult, MultR, Shl, Shr, ShrR, LAdd, LSub, LAbs, LNegate, LMult, LMac, LMsu, LShl, LShr, LShrR, ExtractH, ExtractL, LDepositH, LDepositL, Round, MacR, MsuR, NormS, NormL, DivS, SMax, SMin, LMax, LMin, LMult0, LMac0, LMsu0}
use Rattle.wm_ops.specs.Arguments.{ArgsFit, HasWidth}
use Rattle.wm_ops.specs.Operators.{result_width_of}
use Rattle.wm_ops.specs.declared.outcomes.Outcome.{Outcome}
use Rattle.wm_ops.specs.declared.outcomes.Outcome.TheVariants.{Value, OutOfDomain}
use Rattle.wm_ops.specs.Division.{InQuotient, is_quotient}
use Rattle.wm_ops.specs.Norms.{norm_in}
use Rattle.wm_ops.specs.Shifts.{shl_of, shr_r_of, l_shl_of, l_shr_r_of}
use Rattle.wm_ops.specs.Outcomes.{formula_of, in_domain, outcome_of, OutcomeFits}
use Rattle.wm_ops.proofs.Bounds.{product_small}
use Rattle.wm_ops.proofs.WidthLemmas.{clamp16_fits, clamp32_fits, floor_fits, rounded_fits, high_half_fits, low_half_fits, norm_fits, quotient_domain, quotient_domain-back, greater_fits, lesser_fits, quotient_fits}

shl_fits : (a n : ℤ) → IsWord16 a → IsWord16 ((shl_of a n).value)
shl_fits a (pos n) within = clamp16_fits _
shl_fits a (negsuc n) within = floor_fits _ _ a (suc n) (omega (arith, ints)) (omega (arith, ints)) within

l_shl_fits : (a n : ℤ) → IsWord32 a → IsWord32 ((l_shl_of a n).value)
l_shl_fits a (pos n) within = clamp32_fits _
l_shl_fits a (negsuc n) within = floor_fits _ _ a (suc n) (omega (arith, ints)) (omega (arith, ints)) within

shr_r_fits : (a n : ℤ) → IsWord16 a → IsWord16 ((shr_r_of a n).value)
shr_r_fits a (pos zero) within = clamp16_fits _
shr_r_fits a (pos (suc n)) within = rounded_fits 32767 a n (omega arith) within
shr_r_fits a (negsuc n) within = clamp16_fits _

l_shr_r_fits : (a n : ℤ) → IsWord32 a → IsWord32 ((l_shr_r_of a n).value)
l_shr_r_fits a (pos zero) within = clamp32_fits _
l_shr_r_fits a (pos (suc n)) within = rounded_fits 2147483647 a n (omega arith) within
l_shr_r_fits a (negsuc n) within = clamp32_fits _

high_deposit_fits : (a : ℤ) → IsWord16 a → IsWord32 (a *ℤ pos 65536)
high_deposit_fits a within = record { above = omega (arith, ints, within.above); below = omega (arith, ints, within.below) }

wider : (a : ℤ) → IsWord16 a → IsWord32 a
wider a within = record { above = omega (arith, ints, within.above); below = omega (arith, ints, within.below) }

product_wide : (a b : ℤ) → IsWord16 a → IsWord16 b → IsWord32 (a *ℤ b)
product_wide a b h k =
    let small = product_small a b h k in
    record { above = omega (arith, ints, small.above); below = omega (arith, ints, small.below) }

wide_norm : (places : ℕ) (a : ℤ) → places ≤ 30 → IsWord16 (pos (norm_in places a))
wide_norm places a few =
    let norm = norm_fits places a in
    record { above = omega (arith, ints); below = omega (arith, ints, norm.below) }

pub value_fits :
    (op : Op) (a b c : ℤ) → ArgsFit op a b c → IsTrue (in_domain op a b) → HasWidth (result_width_of op) ((formula_of op a b c).value)
unfolding formula_of in_domain
value_fits Add a b c fit domain = clamp16_fits _
value_fits Sub a b c fit domain = clamp16_fits _
value_fits AbsS a b c fit domain = clamp16_fits _
value_fits Negate a b c fit domain = clamp16_fits _
value_fits Mult a b c fit domain = clamp16_fits _
value_fits MultR a b c fit domain = clamp16_fits _
value_fits Shl a b c fit domain = shl_fits a b fit.first
value_fits Shr a b c fit domain = shl_fits a (neg_ℤ b) fit.first
value_fits ShrR a b c fit domain = shr_r_fits a b fit.first
value_fits LAdd a b c fit domain = clamp32_fits _
value_fits LSub a b c fit domain = clamp32_fits _
value_fits LAbs a b c fit domain = clamp32_fits _
value_fits LNegate a b c fit domain = clamp32_fits _
value_fits LMult a b c fit domain = clamp32_fits _
value_fits LMac a b c fit domain = clamp32_fits _
value_fits LMsu a b c fit domain = clamp32_fits _
value_fits LShl a b c fit domain = l_shl_fits a b fit.first
value_fits LShr a b c fit domain = l_shl_fits a (neg_ℤ b) fit.first
value_fits LShrR a b c fit domain = l_shr_r_fits a b fit.first
value_fits ExtractH a b c fit domain = high_half_fits a fit.first
value_fits ExtractL a b c fit domain = low_half_fits a
value_fits LDepositH a b c fit domain = high_deposit_fits a fit.first
value_fits LDepositL a b c fit domain = wider a fit.first
value_fits Round a b c fit domain = high_half_fits _ (clamp32_fits _)
value_fits MacR a b c fit domain = high_half_fits _ (clamp32_fits _)
value_fits MsuR a b c fit domain = high_half_fits _ (clamp32_fits _)
value_fits NormS a b c fit domain = wide_norm 14 a (omega arith)
value_fits NormL a b c fit domain = wide_norm 30 a (omega arith)
value_fits DivS a b c fit domain = quotient_fits a b domain
value_fits SMax a b c fit domain = greater_fits _ _ a b fit.first fit.second
value_fits SMin a b c fit domain = lesser_fits _ _ a b fit.first fit.second
value_fits LMax a b c fit domain = greater_fits _ _ a b fit.first fit.second
value_fits LMin a b c fit domain = lesser_fits _ _ a b fit.first fit.second
value_fits LMult0 a b c fit domain = product_wide a b fit.first fit.second
value_fits LMac0 a b c fit domain = clamp32_fits _
value_fits LMsu0 a b c fit domain = clamp32_fits _

either_fits :
    (op : Op) (value : ℤ) (saturates flag test : Bool) → (IsTrue test → HasWidth (result_width_of op) value) →
    OutcomeFits op (cond test (Value value saturates flag) OutOfDomain)
either_fits op value saturates flag true fits = fits refl
either_fits op value saturates flag false fits = tt

outcome_fits : (op : Op) (a b c : ℤ) → ArgsFit op a b c → OutcomeFits op (outcome_of op a b c)
unfolding outcome_of
outcome_fits op a b c fit = either_fits op _ _ _ (in_domain op a b) (value_fits op a b c fit)

-- what is the operator's outcome fits
pub found_fits : (op : Op) (a b c : ℤ) (found : Outcome) → ArgsFit op a b c → found ≡ outcome_of op a b c → OutcomeFits op found
found_fits op a b c found fit is =
    let P : Outcome → Type 0 = λ o. OutcomeFits op o in
    subst P (sym is) (outcome_fits op a b c fit)

value_given : (value : ℤ) (saturates flag : Bool) → ¬ (Value value saturates flag ≡ OutOfDomain)
value_given value saturates flag same = cc

refused_test :
    (value : ℤ) (saturates flag test : Bool) → cond test (Value value saturates flag) OutOfDomain ≡ OutOfDomain → test ≡ false
refused_test value saturates flag true same = absurd (value_given value saturates flag same)
refused_test value saturates flag false same = refl

refused_back : (value : ℤ) (saturates flag test : Bool) → test ≡ false → cond test (Value value saturates flag) OutOfDomain ≡ OutOfDomain
refused_back value saturates flag true same = cc
refused_back value saturates flag false same = refl

given_or : (op : Op) (a b : ℤ) → in_domain op a b ≡ false → (op ≡ DivS) × (is_quotient a b ≡ false)
unfolding in_domain
given_or Add a b h = cc
given_or Sub a b h = cc
given_or AbsS a b h = cc
given_or Negate a b h = cc
given_or Mult a b h = cc
given_or MultR a b h = cc
given_or Shl a b h = cc
given_or Shr a b h = cc
given_or ShrR a b h = cc
given_or LAdd a b h = cc
given_or LSub a b h = cc
given_or LAbs a b h = cc
given_or LNegate a b h = cc
given_or LMult a b h = cc
given_or LMac a b h = cc
given_or LMsu a b h = cc
given_or LShl a b h = cc
given_or LShr a b h = cc
given_or LShrR a b h = cc
given_or ExtractH a b h = cc
given_or ExtractL a b h = cc
given_or LDepositH a b h = cc
given_or LDepositL a b h = cc
given_or Round a b h = cc
given_or MacR a b h = cc
given_or MsuR a b h = cc
given_or NormS a b h = cc
given_or NormL a b h = cc
given_or DivS a b h = (refl, h)
given_or SMax a b h = cc
given_or SMin a b h = cc
given_or LMax a b h = cc
given_or LMin a b h = cc
given_or LMult0 a b h = cc
given_or LMac0 a b h = cc
given_or LMsu0 a b h = cc

div_s_domain : (a b : ℤ) → is_quotient a b ≡ false → in_domain DivS a b ≡ false
unfolding in_domain
div_s_domain a b h = h

not_both : (test : Bool) → test ≡ true → test ≡ false → ⊥
not_both test holds fails = cc

not_true : (test : Bool) → ¬ (test ≡ true) → test ≡ false
not_true true h = absurd (h refl)
not_true false h = refl

outcome_refused :
    (op : Op) (a b c : ℤ) →
    (outcome_of op a b c ≡ OutOfDomain → (op ≡ DivS) × ¬ InQuotient a b) ×
    ((op ≡ DivS) × ¬ InQuotient a b → outcome_of op a b c ≡ OutOfDomain)
unfolding outcome_of
outcome_refused op a b c = (
  λ same.
      let out = given_or op a b (refused_test _ _ _ (in_domain op a b) same) in
      (out.0, λ inside. not_both (is_quotient a b) (quotient_domain-back a b inside) out.1),
  λ out.
      let P : Op → Type 0 = λ o. in_domain o a b ≡ false in
      refused_back _ _ _ (in_domain op a b) (subst P (sym out.0) (div_s_domain a b (not_true (is_quotient a b) (λ holds. out.1 (quotient_domain a b holds))))),
)

pub found_refused :
    (op : Op) (a b c : ℤ) (found : Outcome) → found ≡ outcome_of op a b c →
    (found ≡ OutOfDomain → (op ≡ DivS) × ¬ InQuotient a b) × ((op ≡ DivS) × ¬ InQuotient a b → found ≡ OutOfDomain)
found_refused op a b c found is =
    (λ out. (outcome_refused op a b c).0 (sym is ∙ out), λ out. is ∙ (outcome_refused op a b c).1 out)
