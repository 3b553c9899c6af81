-- The exact range of a formula and of an operator over boxes: its least and its greatest result over all arguments.
use Rattle.std.specs.Prelude.{ℤ, pos, negsuc, ◌≡◌, ◌≤ℤ◌, ◌⊎◌, Option, Some, None, IsTrue}
use Rattle.wm_hull.specs.Boxes.{InBoxes}
use Rattle.wm_interval.specs.Holds.{IsHullOf}
use Rattle.wm_interval.specs.declared.Interval.{Interval}
use Rattle.wm_numbers.specs.Within.{IsWord16, IsWord32}
use Rattle.wm_ops.specs.Outcomes.{value_of, in_domain}
use Rattle.wm_ops.specs.declared.operators.Op.{Op}
use Rattle.wm_ops.specs.declared.operators.Op.TheVariants.{Shl, Shr, ShrR, LShl, LShr, LShrR, NormS, NormL}

-- r is what the formula gives at some arguments in the boxes
pub record Reached (f : ℤ → ℤ → ℤ → ℤ) (x y z : Interval) (r : ℤ) : Type 0 where
  pub a : ℤ
  pub b : ℤ
  pub c : ℤ
  pub inside : InBoxes x y z a b c
  pub gives : f a b c ≡ r

-- the ends of the interval are the least and the greatest number that the formula reaches
abbrev pub IsRangeOf : (ℤ → ℤ → ℤ → ℤ) → Interval → Interval → Interval → Interval → Type 0
IsRangeOf f x y z range = IsHullOf (Reached f x y z) range

-- r is the result of the operator at some arguments in the boxes and in its domain
pub record Result (op : Op) (x y z : Interval) (r : ℤ) : Type 0 where
  pub a : ℤ
  pub b : ℤ
  pub c : ℤ
  pub inside : InBoxes x y z a b c
  pub domain : IsTrue (in_domain op a b)
  pub gives : value_of op a b c ≡ r

-- the range of the operator over the boxes: the least and the greatest of its results, or none where no arguments in
-- the boxes are in its domain
abbrev pub IsHull : Op → Interval → Interval → Interval → Option Interval → Type 0
IsHull op x y z None = (a b c : ℤ) → InBoxes x y z a b c → ¬ (IsTrue (in_domain op a b))
IsHull op x y z (Some range) = IsHullOf (Result op x y z) range

-- both ends of the box are numbers of 16 bits
pub record IsBox16 (x : Interval) : Type 0 where
  pub low_in : IsWord16 x.low
  pub high_in : IsWord16 x.high

-- both ends of the box are numbers of 32 bits
pub record IsBox32 (x : Interval) : Type 0 where
  pub low_in : IsWord32 x.low
  pub high_in : IsWord32 x.high

-- the operators that shift to the left by a positive count, and those that shift to the right
abbrev pub IsLeftShift : Op → Type 0
IsLeftShift op = (op ≡ Shl) ⊎ (op ≡ LShl)

abbrev pub IsRightShift : Op → Type 0
IsRightShift op = (op ≡ Shr) ⊎ ((op ≡ ShrR) ⊎ ((op ≡ LShr) ⊎ (op ≡ LShrR)))

-- the operators that count the places of a norm
abbrev pub IsNorm : Op → Type 0
IsNorm op = (op ≡ NormS) ⊎ (op ≡ NormL)

-- the count for a number: one for those that are not negative, another for the negative ones
pub record IsCountFor (a natural negative count : ℤ) : Type 0 where
  pub at_natural : pos 0 ≤ℤ a → count ≡ natural
  pub at_negative : a ≤ℤ negsuc 0 → count ≡ negative
