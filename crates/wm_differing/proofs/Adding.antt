-- Boxes of factors.
use Rattle.std.proofs.Common.{◌≡◌, List, Option, Some, None, [], ◌∷◌, Bool, ℤ, sym, subst, arith}
use Rattle.std.specs.Prelude.{MatchOption, negsuc, ◌<ℤ◌}
use Rattle.std.proofs.lemmas.Int.{ints}
use Rattle.wm_numbers.specs.Within.{IsWord16, IsWord32}
use Rattle.wm_ops.specs.declared.operators.Width.{Width}
use Rattle.wm_ops.specs.declared.operators.Width.TheVariants.{W16, W32}
use Rattle.wm_ops.specs.Arguments.{HasWidth}
use Rattle.wm_ops.specs.Operators.{result_width_of}
use Rattle.wm_ops.proofs.ValueLemmas.{value_fits}
use Rattle.wm_interval.specs.declared.Interval.{Interval}
use Rattle.wm_ops.specs.declared.operators.Op.{Op}
use Rattle.wm_ops.specs.declared.operators.Op.TheVariants.{Add, Sub, AbsS, Negate, Mult, MultR, Shl, Shr, ShrR, LAdd, LSub, LAbs, LNegate, LMult, LMac, LMsu, LShl, LShr, LShrR, ExtractH, ExtractL, LDepositH, LDepositL, Round, MacR, MsuR, NormS, NormL, DivS, SMax, SMin, LMax, LMin, LMult0, LMac0, LMsu0}
use Rattle.wm_hull.specs.Boxes.{BoxesFit, used_box, zero_box}
use Rattle.wm_hull.specs.Ranges.{IsBox16, IsBox32, IsHull, Result}
use Rattle.wm_hull.proofs.Narrowing.{fits_between}
use Rattle.wm_step.specs.Operating.{Change, Second, Product, IsAdded, IsChange, IsChangeBy, IsTurned, IsProduct, Ranges, box_at, change_of}
use Rattle.wm_differing.specs.declared.changes.Summand.{Summand}
use Rattle.wm_differing.specs.declared.changes.Summand.TheVariants as summand
use Rattle.wm_differing.specs.Differing.{told, FactorsFit, Joins}

-- the operators that add a second argument have one of 32 bits, and those that add a product have factors of 16
abbrev FactorsBy : Option Change → List Interval → Type 0
FactorsBy None boxes = Unit {0}
FactorsBy (Some (Second away)) boxes = IsBox32 (box_at boxes 1)
FactorsBy (Some (Product product away)) boxes = IsBox16 (box_at boxes 1) × IsBox16 (box_at boxes 2)

of16 : (b : Interval) → IsWord16 b.low → IsWord16 b.high → IsBox32 b
of16 b l h = record { low_in = wider b.low l; high_in = wider b.high h }
  where
    wider : (a : ℤ) → IsWord16 a → IsWord32 a
    wider a w = record { above = omega (arith, ints, w.above); below = omega (arith, ints, w.below) }

of32 : (b : Interval) → IsWord32 b.low → IsWord32 b.high → IsBox32 b
of32 b l h = record { low_in = l; high_in = h }

factors_of : (op : Op) (boxes : List Interval) → BoxesFit op (used_box op boxes 0) (used_box op boxes 1) (used_box op boxes 2) → FactorsBy (change_of op) boxes
factors_of Add boxes f = of16 (box_at boxes 1) f.low_ends.second f.high_ends.second
factors_of Sub boxes f = of16 (box_at boxes 1) f.low_ends.second f.high_ends.second
factors_of AbsS boxes f = tt
factors_of Negate boxes f = tt
factors_of Mult boxes f = tt
factors_of MultR boxes f = tt
factors_of Shl boxes f = tt
factors_of Shr boxes f = tt
factors_of ShrR boxes f = tt
factors_of LAdd boxes f = of32 (box_at boxes 1) f.low_ends.second f.high_ends.second
factors_of LSub boxes f = of32 (box_at boxes 1) f.low_ends.second f.high_ends.second
factors_of LAbs boxes f = tt
factors_of LNegate boxes f = tt
factors_of LMult boxes f = tt
factors_of LMac boxes f = (record { low_in = f.low_ends.second; high_in = f.high_ends.second }, record { low_in = f.low_ends.third; high_in = f.high_ends.third })
factors_of LMsu boxes f = (record { low_in = f.low_ends.second; high_in = f.high_ends.second }, record { low_in = f.low_ends.third; high_in = f.high_ends.third })
factors_of LShl boxes f = tt
factors_of LShr boxes f = tt
factors_of LShrR boxes f = tt
factors_of ExtractH boxes f = tt
factors_of ExtractL boxes f = tt
factors_of LDepositH boxes f = tt
factors_of LDepositL boxes f = tt
factors_of Round boxes f = tt
factors_of MacR boxes f = tt
factors_of MsuR boxes f = tt
factors_of NormS boxes f = tt
factors_of NormL boxes f = tt
factors_of DivS boxes f = tt
factors_of SMax boxes f = tt
factors_of SMin boxes f = tt
factors_of LMax boxes f = tt
factors_of LMin boxes f = tt
factors_of LMult0 boxes f = tt
factors_of LMac0 boxes f = (record { low_in = f.low_ends.second; high_in = f.high_ends.second }, record { low_in = f.low_ends.third; high_in = f.high_ends.third })
factors_of LMsu0 boxes f = (record { low_in = f.low_ends.second; high_in = f.high_ends.second }, record { low_in = f.low_ends.third; high_in = f.high_ends.third })

from_change : (what : Summand) (boxes : List Interval) → FactorsBy (Some (told what)) boxes → FactorsFit what boxes
from_change (summand.Second away) boxes f = f
from_change (summand.Doubled away) boxes f = f
from_change (summand.Plain away) boxes f = f

pub factors_fit : (op : Op) (what : Summand) (boxes : List Interval) → change_of op ≡ Some (told what) → BoxesFit op (used_box op boxes 0) (used_box op boxes 1) (used_box op boxes 2) → FactorsFit what boxes
factors_fit op what boxes e f = from_change what boxes (subst (λ (o : Option Change). FactorsBy o boxes) e (factors_of op boxes f))

pub doubled_fit : (boxes : List Interval) → IsBox16 (box_at boxes 1) × IsBox16 (box_at boxes 2) → BoxesFit LMult (used_box LMult (box_at boxes 1 ∷ box_at boxes 2 ∷ zero_box ∷ []) 0) (used_box LMult (box_at boxes 1 ∷ box_at boxes 2 ∷ zero_box ∷ []) 1) (used_box LMult (box_at boxes 1 ∷ box_at boxes 2 ∷ zero_box ∷ []) 2)
doubled_fit boxes h = record {
  low_ends = record { first = h.0.low_in; second = h.1.low_in; third = tt };
  high_ends = record { first = h.0.high_in; second = h.1.high_in; third = tt };
}

pub plain_fit : (boxes : List Interval) → IsBox16 (box_at boxes 1) × IsBox16 (box_at boxes 2) → BoxesFit LMult0 (used_box LMult0 (box_at boxes 1 ∷ box_at boxes 2 ∷ zero_box ∷ []) 0) (used_box LMult0 (box_at boxes 1 ∷ box_at boxes 2 ∷ zero_box ∷ []) 1) (used_box LMult0 (box_at boxes 1 ∷ box_at boxes 2 ∷ zero_box ∷ []) 2)
plain_fit boxes h = record {
  low_ends = record { first = h.0.low_in; second = h.1.low_in; third = tt };
  high_ends = record { first = h.0.high_in; second = h.1.high_in; third = tt };
}

pub change_is : (op : Op) (what : Summand) (boxes : List Interval) (added d : Interval) → change_of op ≡ Some (told what) → IsAdded (told what) boxes added → Joins op boxes added d → IsChange op boxes d
change_is op what boxes added d e a j = subst (λ (o : Option Change). IsChangeBy op o boxes d) (sym e) (record { added = added; is = a; joined = j })

-- ---- no answer

-- nothing is changed where nothing is added
pub no_change : (op : Op) (boxes : List Interval) → change_of op ≡ None → (d : Interval) → IsChange op boxes d → ⊥
no_change op boxes e d h = subst (λ (o : Option Change). IsChangeBy op o boxes d) e h

pub no_added : (op : Op) (what : Summand) (boxes : List Interval) → change_of op ≡ Some (told what) → ((d : Interval) → IsAdded (told what) boxes d → ⊥) → (d : Interval) → IsChange op boxes d → ⊥
no_added op what boxes e n d h = let j : IsChangeBy op (Some (told what)) boxes d = subst (λ (o : Option Change). IsChangeBy op o boxes d) e h in n j.added j.is

-- numbers of 32 bits are not too large
word_of : (w : Width) (z : ℤ) → HasWidth w z → IsWord32 z
word_of W16 z h = record { above = omega (arith, ints, h.above); below = omega (arith, ints, h.below) }
word_of W32 z h = h

too_large : (z : ℤ) → IsWord32 z → z <ℤ negsuc 4294967295 → ⊥
too_large z h k = omega (arith, ints, h.above, k)

result_word : (op : Op) (x y z : Interval) (n : ℤ) → BoxesFit op x y z → Result op x y z n → IsWord32 n
result_word op x y z n fit r = word_of (result_width_of op) n (subst (HasWidth (result_width_of op)) r.gives (value_fits op r.a r.b r.c (fits_between op x y z r.a r.b r.c fit r.inside) r.domain))

hull_word : (op : Op) (x y z r : Interval) → BoxesFit op x y z → IsHull op x y z (Some r) → r.low <ℤ negsuc 4294967295 → ⊥
hull_word op x y z r fit h k = too_large r.low (result_word op x y z r.low fit h.low_is.attained) k

pub no_hull : (op : Op) (away : Bool) (boxes : List Interval) (x y : Interval) → x ≡ box_at boxes 1 → y ≡ box_at boxes 2 → Ranges op (x ∷ y ∷ zero_box ∷ []) None → (d : Interval) → IsProduct op away boxes d → ⊥
no_hull op away boxes x y e f h d p =
    let none : Ranges op (box_at boxes 1 ∷ box_at boxes 2 ∷ zero_box ∷ []) None =
    subst (λ (b : Interval). Ranges op (b ∷ box_at boxes 2 ∷ zero_box ∷ []) None) e (subst (λ (b : Interval). Ranges op (x ∷ b ∷ zero_box ∷ []) None) f h) in
    let a = p.is.low_is.attained in
    none a.a a.b a.c a.inside a.domain

second_word : (r : Interval) → IsBox32 r → r.low <ℤ negsuc 4294967295 → ⊥
second_word r b k = too_large r.low b.low_in k

-- the second argument, with the other sign or not, is an answer
pub second_added : (away : Bool) (boxes : List Interval) (b : Interval) (o : Option Interval) → b ≡ box_at boxes 1 → IsBox32 (box_at boxes 1) → MatchOption o (b.low <ℤ negsuc 4294967295) (IsTurned away b) → MatchOption o ((d : Interval) → IsAdded (Second away) boxes d → ⊥) (IsAdded (Second away) boxes)
second_added away boxes b None e w h = absurd (second_word (box_at boxes 1) w (subst (λ (r : Interval). r.low <ℤ negsuc 4294967295) e h))
second_added away boxes b (Some d) e w h = subst (λ (r : Interval). IsTurned away r d) e h

pub product_is : (op : Op) (away : Bool) (boxes : List Interval) (x y r d : Interval) → x ≡ box_at boxes 1 → y ≡ box_at boxes 2 → Ranges op (x ∷ y ∷ zero_box ∷ []) (Some r) → IsTurned away r d → IsProduct op away boxes d
product_is op away boxes x y r d e f h t = record {
  range = r;
  is = subst (λ (b : Interval). Ranges op (b ∷ box_at boxes 2 ∷ zero_box ∷ []) (Some r)) e (subst (λ (b : Interval). Ranges op (x ∷ b ∷ zero_box ∷ []) (Some r)) f h);
  turned = t;
}

-- and so is the product
pub product_added : (op : Op) (away : Bool) (boxes : List Interval) (x y r : Interval) (o : Option Interval) → x ≡ box_at boxes 1 → y ≡ box_at boxes 2
    → BoxesFit op (used_box op (box_at boxes 1 ∷ box_at boxes 2 ∷ zero_box ∷ []) 0) (used_box op (box_at boxes 1 ∷ box_at boxes 2 ∷ zero_box ∷ []) 1) (used_box op (box_at boxes 1 ∷ box_at boxes 2 ∷ zero_box ∷ []) 2)
    → Ranges op (x ∷ y ∷ zero_box ∷ []) (Some r) → MatchOption o (r.low <ℤ negsuc 4294967295) (IsTurned away r) → MatchOption o ((d : Interval) → IsProduct op away boxes d → ⊥) (IsProduct op away boxes)
product_added op away boxes x y r None e f fit h k =
    let some : Ranges op (box_at boxes 1 ∷ box_at boxes 2 ∷ zero_box ∷ []) (Some r) =
    subst (λ (b : Interval). Ranges op (b ∷ box_at boxes 2 ∷ zero_box ∷ []) (Some r)) e (subst (λ (b : Interval). Ranges op (x ∷ b ∷ zero_box ∷ []) (Some r)) f h) in
    absurd (hull_word op (used_box op (box_at boxes 1 ∷ box_at boxes 2 ∷ zero_box ∷ []) 0) (used_box op (box_at boxes 1 ∷ box_at boxes 2 ∷ zero_box ∷ []) 1) (used_box op (box_at boxes 1 ∷ box_at boxes 2 ∷ zero_box ∷ []) 2) r fit some k)
product_added op away boxes x y r (Some d) e f fit h k = product_is op away boxes x y r d e f h k
