-- The boxes that an operator uses have 32 bits, and 0..0 stands in the other places.
use Rattle.std.proofs.Common.{◌≡◌, subst, ℤ, arith}
use Rattle.std.proofs.lemmas.Int.{ints}
use Rattle.std.specs.Prelude.{List, if◌then◌else◌, nat_lt}
use Rattle.wm_numbers.specs.Within.{IsWord16, IsWord32}
use Rattle.wm_interval.specs.declared.Interval.{Interval}
use Rattle.wm_ops.specs.Arguments.{FitsAt}
use Rattle.wm_ops.specs.Operators.{arity_of}
use Rattle.wm_ops.specs.declared.operators.Op.{Op}
use Rattle.wm_ops.specs.declared.operators.Op.TheVariants.{Add, Sub, AbsS, Negate, Mult, MultR, Shl, Shr, ShrR, LAdd, LSub, LAbs, LNegate, LMult, LMac, LMsu, LShl, LShr, LShrR, ExtractH, ExtractL, LDepositH, LDepositL, Round, MacR, MsuR, NormS, NormL, DivS, SMax, SMin, LMax, LMin, LMult0, LMac0, LMsu0}
use Rattle.wm_hull.specs.Boxes.{BoxesFit, used_box, zero_box}
use Rattle.wm_hull.specs.Ranges.{IsBox32}

-- three intervals, each for one that equals it
pub moved : (P : Interval → Interval → Interval → Type 0) {x y z u v w : Interval} → x ≡ u → y ≡ v → z ≡ w → P x y z → P u v w
moved P {x} {y} {z} {u} {v} {w} e f g p = subst (λ k. P u v k) g (subst (λ k. P u k z) f (subst (λ k. P k y z) e p))

of16 : (b : Interval) → IsWord16 b.low → IsWord16 b.high → IsBox32 b
of16 b l h = record { low_in = wider b.low l; high_in = wider b.high h }
  where
    wider : (a : ℤ) → IsWord16 a → IsWord32 a
    wider a w = let p = w.above in let q = w.below in record { above = omega (arith, ints); below = omega (arith, ints) }

of32 : (b : Interval) → IsWord32 b.low → IsWord32 b.high → IsBox32 b
of32 b l h = record { low_in = l; high_in = h }

of_zero : IsBox32 zero_box
of_zero = record { low_in = record { above = omega (arith, ints); below = omega (arith, ints) }; high_in = record { above = omega (arith, ints); below = omega (arith, ints) } }

wide_first : (op : Op) (b : Interval) → FitsAt op 0 (if nat_lt 0 (arity_of op) then b else zero_box).low → FitsAt op 0 (if nat_lt 0 (arity_of op) then b else zero_box).high → IsBox32 (if nat_lt 0 (arity_of op) then b else zero_box)
wide_first Add b l h = of16 b l h
wide_first Sub b l h = of16 b l h
wide_first AbsS b l h = of16 b l h
wide_first Negate b l h = of16 b l h
wide_first Mult b l h = of16 b l h
wide_first MultR b l h = of16 b l h
wide_first Shl b l h = of16 b l h
wide_first Shr b l h = of16 b l h
wide_first ShrR b l h = of16 b l h
wide_first LAdd b l h = of32 b l h
wide_first LSub b l h = of32 b l h
wide_first LAbs b l h = of32 b l h
wide_first LNegate b l h = of32 b l h
wide_first LMult b l h = of16 b l h
wide_first LMac b l h = of32 b l h
wide_first LMsu b l h = of32 b l h
wide_first LShl b l h = of32 b l h
wide_first LShr b l h = of32 b l h
wide_first LShrR b l h = of32 b l h
wide_first ExtractH b l h = of32 b l h
wide_first ExtractL b l h = of32 b l h
wide_first LDepositH b l h = of16 b l h
wide_first LDepositL b l h = of16 b l h
wide_first Round b l h = of32 b l h
wide_first MacR b l h = of32 b l h
wide_first MsuR b l h = of32 b l h
wide_first NormS b l h = of16 b l h
wide_first NormL b l h = of32 b l h
wide_first DivS b l h = of16 b l h
wide_first SMax b l h = of16 b l h
wide_first SMin b l h = of16 b l h
wide_first LMax b l h = of32 b l h
wide_first LMin b l h = of32 b l h
wide_first LMult0 b l h = of16 b l h
wide_first LMac0 b l h = of32 b l h
wide_first LMsu0 b l h = of32 b l h

wide_second : (op : Op) (b : Interval) → FitsAt op 1 (if nat_lt 1 (arity_of op) then b else zero_box).low → FitsAt op 1 (if nat_lt 1 (arity_of op) then b else zero_box).high → IsBox32 (if nat_lt 1 (arity_of op) then b else zero_box)
wide_second Add b l h = of16 b l h
wide_second Sub b l h = of16 b l h
wide_second AbsS b l h = of_zero
wide_second Negate b l h = of_zero
wide_second Mult b l h = of16 b l h
wide_second MultR b l h = of16 b l h
wide_second Shl b l h = of16 b l h
wide_second Shr b l h = of16 b l h
wide_second ShrR b l h = of16 b l h
wide_second LAdd b l h = of32 b l h
wide_second LSub b l h = of32 b l h
wide_second LAbs b l h = of_zero
wide_second LNegate b l h = of_zero
wide_second LMult b l h = of16 b l h
wide_second LMac b l h = of16 b l h
wide_second LMsu b l h = of16 b l h
wide_second LShl b l h = of16 b l h
wide_second LShr b l h = of16 b l h
wide_second LShrR b l h = of16 b l h
wide_second ExtractH b l h = of_zero
wide_second ExtractL b l h = of_zero
wide_second LDepositH b l h = of_zero
wide_second LDepositL b l h = of_zero
wide_second Round b l h = of_zero
wide_second MacR b l h = of16 b l h
wide_second MsuR b l h = of16 b l h
wide_second NormS b l h = of_zero
wide_second NormL b l h = of_zero
wide_second DivS b l h = of16 b l h
wide_second SMax b l h = of16 b l h
wide_second SMin b l h = of16 b l h
wide_second LMax b l h = of32 b l h
wide_second LMin b l h = of32 b l h
wide_second LMult0 b l h = of16 b l h
wide_second LMac0 b l h = of16 b l h
wide_second LMsu0 b l h = of16 b l h

wide_third : (op : Op) (b : Interval) → FitsAt op 2 (if nat_lt 2 (arity_of op) then b else zero_box).low → FitsAt op 2 (if nat_lt 2 (arity_of op) then b else zero_box).high → IsBox32 (if nat_lt 2 (arity_of op) then b else zero_box)
wide_third Add b l h = of_zero
wide_third Sub b l h = of_zero
wide_third AbsS b l h = of_zero
wide_third Negate b l h = of_zero
wide_third Mult b l h = of_zero
wide_third MultR b l h = of_zero
wide_third Shl b l h = of_zero
wide_third Shr b l h = of_zero
wide_third ShrR b l h = of_zero
wide_third LAdd b l h = of_zero
wide_third LSub b l h = of_zero
wide_third LAbs b l h = of_zero
wide_third LNegate b l h = of_zero
wide_third LMult b l h = of_zero
wide_third LMac b l h = of16 b l h
wide_third LMsu b l h = of16 b l h
wide_third LShl b l h = of_zero
wide_third LShr b l h = of_zero
wide_third LShrR b l h = of_zero
wide_third ExtractH b l h = of_zero
wide_third ExtractL b l h = of_zero
wide_third LDepositH b l h = of_zero
wide_third LDepositL b l h = of_zero
wide_third Round b l h = of_zero
wide_third MacR b l h = of16 b l h
wide_third MsuR b l h = of16 b l h
wide_third NormS b l h = of_zero
wide_third NormL b l h = of_zero
wide_third DivS b l h = of_zero
wide_third SMax b l h = of_zero
wide_third SMin b l h = of_zero
wide_third LMax b l h = of_zero
wide_third LMin b l h = of_zero
wide_third LMult0 b l h = of_zero
wide_third LMac0 b l h = of16 b l h
wide_third LMsu0 b l h = of16 b l h

module _ (op : Op) (boxes : List Interval) (f : BoxesFit op (used_box op boxes 0) (used_box op boxes 1) (used_box op boxes 2)) where
  pub used_first : IsBox32 (used_box op boxes 0)
  used_first = wide_first op _ f.low_ends.first f.high_ends.first

  pub used_second : IsBox32 (used_box op boxes 1)
  used_second = wide_second op _ f.low_ends.second f.high_ends.second

  pub used_third : IsBox32 (used_box op boxes 2)
  used_third = wide_third op _ f.low_ends.third f.high_ends.third
