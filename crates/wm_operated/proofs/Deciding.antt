-- What the rule of an operator says, told by boxes, a range and a change of its own.
use denote.Struct.Props as logic
use Rattle.std.proofs.Common.{◌≡◌, ◌⊎◌, inl, inr, ◌<◌, ◌^◌, ℤ, pos, negsuc, neg_ℤ, ◌-ℤ◌, ◌≤ℤ◌, unsigned_abs, Bool, true, false, List, [], ◌∷◌, Option, Some, None, sym, ◌∙◌, ap, subst, arith}
use Rattle.std.specs.Prelude.{◌↔◌, MatchOption, if◌then◌else◌, nat_lt}
use Rattle.std.specs.Int.{int_min, int_max}
use Rattle.std.proofs.lemmas.Int.{ints}
use Rattle.wm_numbers.specs.Within.{IsWord32}
use Rattle.wm_numbers.proofs.Order.{le_refl}
use Rattle.wm_numbers.proofs.Extremes.{least_once, greatest_once}
use Rattle.wm_interval.specs.declared.Interval.{Interval}
use Rattle.wm_interval.specs.Holds.{Holds, InBoth, IsHullOf}
use Rattle.wm_ops.specs.declared.operators.Op.{Op}
use Rattle.wm_ops.specs.Operators.{arity_of}
use Rattle.wm_hull.specs.Boxes.{used_box, zero_box}
use Rattle.wm_hull.specs.Failures.{Somewhere, Nowhere}
use Rattle.wm_hull.specs.Ranges.{IsHull, Result}
use Rattle.wm_ops.specs.Outcomes.{fails_of, flags_of}
use Rattle.wm_domain.specs.declared.form.Form.{Form}
use Rattle.wm_domain.specs.Points.{Point}
use Rattle.wm_domain.specs.States.{IsSized}
use Rattle.wm_step.specs.Operating.{AreBoxes, HasArguments, InArgument, IsOperated, IsResult, Ranges, FailsSomewhere, FailsNowhere, FlagsSomewhere, Change, Second, Product, IsTurned, IsAdded, IsJoined, IsChange, IsChangeBy, change_of, box_at, form_at}
use Rattle.wm_operated.specs.Clamping.{IsClamped}
use Rattle.wm_operated.specs.Differences.{DiffersFrom, Differs}

-- ---- intervals with the same ends are one

make : (low high : ℤ) → low ≤ℤ high → Interval
make low high ordered = record { low = low; high = high; ordered = ordered }

one_way : (a b : ℤ) (o p : a ≤ℤ b) → o ≡ p
one_way a b o p = let once : IsProp (a ≤ℤ b) = hlevel logic.props in once o p

meet : (a b : ℤ) (o : a ≤ℤ b) (c d : ℤ) (p : c ≤ℤ d) → a ≡ c → b ≡ d → make a b o ≡ make c d p
meet a b o c d p l h =
    subst (λ (c : ℤ). (p : c ≤ℤ d) → make a b o ≡ make c d p) l
    (subst (λ (d : ℤ). (p : a ≤ℤ d) → make a b o ≡ make a d p) h (λ p. ap (make a b) (one_way a b o p))) p

alike : (i j : Interval) → i.low ≡ j.low → i.high ≡ j.high → i ≡ j
unfolding make
alike i j l h = meet i.low i.high i.ordered j.low j.high j.ordered l h

hull_once : (Is : ℤ → Type 0) (a b : Interval) → IsHullOf Is a → IsHullOf Is b → a ≡ b
hull_once Is a b h k = alike a b (least_once h.low_is k.low_is) (greatest_once h.high_is k.high_is)

-- ---- the same boxes

record Same (xs ys : List Interval) : Type 0 where
  first : box_at xs 0 ≡ box_at ys 0
  second : box_at xs 1 ≡ box_at ys 1
  third : box_at xs 2 ≡ box_at ys 2

same_boxes : (Has : Point → Type 0) (op : Op) (args : List Form) (xs ys : List Interval) → AreBoxes Has op args xs → AreBoxes Has op args ys → Same xs ys
same_boxes Has op args xs ys a b = record {
  first = hull_once (InArgument Has op 0 (form_at args 0)) (box_at xs 0) (box_at ys 0) a.first b.first;
  second = hull_once (InArgument Has op 1 (form_at args 1)) (box_at xs 1) (box_at ys 1) a.second b.second;
  third = hull_once (InArgument Has op 2 (form_at args 2)) (box_at xs 2) (box_at ys 2) a.third b.third;
}

chosen : (b : Bool) (x y : Interval) → x ≡ y → (if b then x else zero_box) ≡ (if b then y else zero_box)
chosen b x y e = ap (λ (k : Interval). if b then k else zero_box) e

moved : (P : Interval → Interval → Interval → Type 0) (x y z u v w : Interval) → x ≡ u → y ≡ v → z ≡ w → P x y z → P u v w
moved P x y z u v w e f g p = subst (λ k. P u v k) g (subst (λ k. P u k z) f (subst (λ k. P k y z) e p))

used_moved : (op : Op) (P : Interval → Interval → Interval → Type 0) (xs ys : List Interval) → Same xs ys → P (used_box op xs 0) (used_box op xs 1) (used_box op xs 2) → P (used_box op ys 0) (used_box op ys 1) (used_box op ys 2)
used_moved op P xs ys s p =
    moved P (used_box op xs 0) (used_box op xs 1) (used_box op xs 2) (used_box op ys 0) (used_box op ys 1) (used_box op ys 2)
    (chosen (nat_lt 0 (arity_of op)) (box_at xs 0) (box_at ys 0) s.first)
    (chosen (nat_lt 1 (arity_of op)) (box_at xs 1) (box_at ys 1) s.second)
    (chosen (nat_lt 2 (arity_of op)) (box_at xs 2) (box_at ys 2) s.third) p

same_ranges : (op : Op) (xs ys : List Interval) (range : Option Interval) → Same xs ys → Ranges op xs range → Ranges op ys range
same_ranges op xs ys range s r = used_moved op (λ x y z. IsHull op x y z range) xs ys s r

back : (xs ys : List Interval) → Same xs ys → Same ys xs
back xs ys s = record { first = sym s.first; second = sym s.second; third = sym s.third }

-- ---- the same range

hull_result : (op : Op) (x y z : Interval) (r : Interval) (o : Option Interval) (n : ℤ) → IsHull op x y z (Some r) → IsHull op x y z o → Holds r n → IsResult o n
hull_result op x y z r None n h k i = let a = h.low_is.attained in k a.a a.b a.c a.inside a.domain
hull_result op x y z r (Some s) n h k i = subst (λ (t : Interval). Holds t n) (hull_once (Result op x y z) r s h k) i

-- ---- the same change

added_once : (change : Change) (boxes : List Interval) (d e : Interval) → IsAdded change boxes d → IsAdded change boxes e → d ≡ e
added_once (Second away) boxes d e h k = turned_once away (box_at boxes 1) d e h k
  where
    turned_once : (away : Bool) (r d e : Interval) → IsTurned away r d → IsTurned away r e → d ≡ e
    turned_once true r d e h k = alike d e (h.0 ∙ sym k.0) (h.1 ∙ sym k.1)
    turned_once false r d e h k = alike d e (h.0 ∙ sym k.0) (h.1 ∙ sym k.1)
added_once (Product product away) boxes d e h k = turned_both away h.range k.range d e (hull_once _ h.range k.range h.is k.is) h.turned k.turned
  where
    turned_both : (away : Bool) (r s d e : Interval) → r ≡ s → IsTurned away r d → IsTurned away s e → d ≡ e
    turned_both true r s d e q h k = alike d e (h.0 ∙ ap (λ (i : Interval). neg_ℤ i.high) q ∙ sym k.0) (h.1 ∙ ap (λ (i : Interval). neg_ℤ i.low) q ∙ sym k.1)
    turned_both false r s d e q h k = alike d e (h.0 ∙ ap (λ (i : Interval). i.low) q ∙ sym k.0) (h.1 ∙ ap (λ (i : Interval). i.high) q ∙ sym k.1)

pub nowhere_else : (test : ℤ → ℤ → ℤ → Bool) (x y z : Interval) → Nowhere test x y z → Somewhere test x y z → ⊥
nowhere_else test x y z n s = n s.a s.b s.c s.inside s.holds

joined_once : (op : Op) (change : Change) (boxes : List Interval) (d e : Interval) → IsJoined op change boxes d → IsJoined op change boxes e → d ≡ e
joined_once op change boxes d e h k = with_cases h.joined k.joined
  where
    same : h.added ≡ k.added
    same = added_once change boxes h.added k.added h.is k.is

    with_cases : ((FailsNowhere op boxes × (d.low ≡ h.added.low) × (d.high ≡ h.added.high)) ⊎ (FailsSomewhere op boxes × (d.low ≡ int_min h.added.low (pos 0)) × (d.high ≡ int_max h.added.high (pos 0))))
        → ((FailsNowhere op boxes × (e.low ≡ k.added.low) × (e.high ≡ k.added.high)) ⊎ (FailsSomewhere op boxes × (e.low ≡ int_min k.added.low (pos 0)) × (e.high ≡ int_max k.added.high (pos 0)))) → d ≡ e
    with_cases (inl i) (inl j) = alike d e (i.1 ∙ ap (λ (r : Interval). r.low) same ∙ sym j.1) (i.2 ∙ ap (λ (r : Interval). r.high) same ∙ sym j.2)
    with_cases (inl i) (inr j) = absurd (nowhere_else (fails_of op) (used_box op boxes 0) (used_box op boxes 1) (used_box op boxes 2) i.0 j.0)
    with_cases (inr i) (inl j) = absurd (nowhere_else (fails_of op) (used_box op boxes 0) (used_box op boxes 1) (used_box op boxes 2) j.0 i.0)
    with_cases (inr i) (inr j) = alike d e (i.1 ∙ ap (λ (r : Interval). int_min r.low (pos 0)) same ∙ sym j.1) (i.2 ∙ ap (λ (r : Interval). int_max r.high (pos 0)) same ∙ sym j.2)

change_once_by : (op : Op) (o : Option Change) (boxes : List Interval) (d e : Interval) → IsChangeBy op o boxes d → IsChangeBy op o boxes e → d ≡ e
change_once_by op None boxes d e h k = absurd h
change_once_by op (Some change) boxes d e h k = joined_once op change boxes d e h k

pub change_once : (op : Op) (boxes : List Interval) (d e : Interval) → IsChange op boxes d → IsChange op boxes e → d ≡ e
change_once op boxes d e h k = change_once_by op (change_of op) boxes d e h k

same_added : (change : Change) (xs ys : List Interval) (d : Interval) → Same xs ys → IsAdded change xs d → IsAdded change ys d
same_added (Second away) xs ys d s h = subst (λ (b : Interval). IsTurned away b d) s.second h
same_added (Product product away) xs ys d s h = record {
  range = h.range;
  is = pair_ranges product (box_at xs 1) (box_at xs 2) (box_at ys 1) (box_at ys 2) (Some h.range) s.second s.third h.is;
  turned = h.turned;
}
  where
    pair_ranges : (product : Op) (x y u v : Interval) (r : Option Interval) → x ≡ u → y ≡ v → Ranges product (x ∷ y ∷ zero_box ∷ []) r → Ranges product (u ∷ v ∷ zero_box ∷ []) r
    pair_ranges product x y u v r e f h = subst (λ (b : Interval). Ranges product (u ∷ b ∷ zero_box ∷ []) r) f (subst (λ (b : Interval). Ranges product (b ∷ y ∷ zero_box ∷ []) r) e h)

same_joined : (op : Op) (change : Change) (xs ys : List Interval) (d : Interval) → Same xs ys → IsJoined op change xs d → IsJoined op change ys d
same_joined op change xs ys d s h = record {
  added = h.added;
  is = same_added change xs ys h.added s h.is;
  joined = elim h.joined [
    | inl i ↦ inl (used_moved op (λ x y z. Nowhere (fails_of op) x y z) xs ys s i.0, i.1, i.2)
    | inr i ↦ inr (used_moved op (λ x y z. Somewhere (fails_of op) x y z) xs ys s i.0, i.1, i.2)
  ];
}

same_change_by : (op : Op) (o : Option Change) (xs ys : List Interval) (d : Interval) → Same xs ys → IsChangeBy op o xs d → IsChangeBy op o ys d
same_change_by op None xs ys d s h = absurd h
same_change_by op (Some change) xs ys d s h = same_joined op change xs ys d s h

-- ---- the rule

arguments_of : (Has : Point → Type 0) (op : Op) (args : List Form) (boxes : List Interval) → AreBoxes Has op args boxes → HasArguments Has op args
arguments_of Has op args boxes a = record {
  a = (box_at boxes 0).low;
  b = (box_at boxes 1).low;
  c = (box_at boxes 2).low;
  first = a.first.low_is.attained;
  second = a.second.low_is.attained;
  third = a.third.low_is.attained;
}

pub operated_from : (Has : Point → Type 0) (op : Op) (args : List Form) (boxes : List Interval) (range : Interval) (was : Point) (z : ℤ) → AreBoxes Has op args boxes → Ranges op boxes (Some range)
    → Holds range z → IsClamped Has op args z → Differs op args boxes was z → IsOperated Has op args was z
operated_from Has op args boxes range was z are ranges h c d = record {
  some = arguments_of Has op args boxes are;
  value = λ others are_others o ranges_others.
      let s = same_boxes Has op args boxes others are are_others in
      hull_result op (used_box op others 0) (used_box op others 1) (used_box op others 2) range o z (same_ranges op boxes others (Some range) s ranges) ranges_others h;
  differs = λ others are_others w e k change.
      let s = same_boxes Has op args boxes others are are_others in
      d w e k (same_change_by op (change_of op) others boxes k (back boxes others s) change);
  clamped = c;
}

pub operated_to : (Has : Point → Type 0) (op : Op) (args : List Form) (boxes : List Interval) (range : Interval) (was : Point) (z : ℤ) → AreBoxes Has op args boxes → Ranges op boxes (Some range)
    → IsOperated Has op args was z → Holds range z × IsClamped Has op args z × Differs op args boxes was z
operated_to Has op args boxes range was z are ranges m = (m.value boxes are (Some range) ranges, m.clamped, λ w e d change. m.differs boxes are w e d change)

pub not_operated : (Has : Point → Type 0) (op : Op) (args : List Form) (boxes : List Interval) (was : Point) (z : ℤ) → AreBoxes Has op args boxes → Ranges op boxes None → IsOperated Has op args was z → ⊥
not_operated Has op args boxes was z are ranges m = m.value boxes are None ranges

-- an operator that flags somewhere in the boxes of the arguments does so in each such list of boxes
pub flags_in_all : (Has : Point → Type 0) (op : Op) (args : List Form) (boxes : List Interval) → AreBoxes Has op args boxes → FlagsSomewhere op boxes → (others : List Interval) → AreBoxes Has op args others → FlagsSomewhere op others
flags_in_all Has op args boxes are h others are_others = used_moved op (Somewhere (flags_of op)) boxes others (same_boxes Has op args boxes others are are_others) h

-- ---- parts of ranges

in_words : (all : Interval) (z : ℤ) → all.low ≡ negsuc 2147483647 → all.high ≡ pos 2147483647 → IsWord32 z → Holds all z
in_words all z el eh h = record { above = omega (arith, ints, el, h.above); below = omega (arith, ints, eh, h.below) }

in_differences : (all : Interval) (z x : ℤ) → all.low ≡ negsuc 4294967294 → all.high ≡ pos 4294967295 → IsWord32 z → IsWord32 x → Holds all (z -ℤ x)
in_differences all z x el eh h k = record {
  above = omega (arith, ints, el, h.above, h.below, k.above, k.below);
  below = omega (arith, ints, eh, h.above, h.below, k.above, k.below);
}

-- of a number that the one interval holds, the common part tells whether the other does
met : (r all : Interval) (o : Option Interval) (z : ℤ) → MatchOption o ((z : ℤ) → InBoth r all z → ⊥) (λ w. IsHullOf (InBoth r all) w) → MatchOption o (Unit {0}) (λ w. (z : ℤ) → Holds w z ↔ InBoth r all z) → Holds all z → IsResult o z ↔ Holds r z
met r all None z none each h = (λ i. absurd i, λ k. none z (k, h))
met r all (Some w) z some each h = (λ i. ((each z).0 i).0, λ k. (each z).1 (k, h))

pub word_part : (r all : Interval) (o : Option Interval) (z : ℤ) → all.low ≡ negsuc 2147483647 → all.high ≡ pos 2147483647
    → MatchOption o ((z : ℤ) → InBoth r all z → ⊥) (λ w. IsHullOf (InBoth r all) w) → MatchOption o (Unit {0}) (λ w. (z : ℤ) → Holds w z ↔ InBoth r all z) → IsWord32 z → IsResult o z ↔ Holds r z
word_part r all o z el eh common each h = met r all o z common each (in_words all z el eh h)

pub difference_part : (d all : Interval) (o : Option Interval) (z x : ℤ) → all.low ≡ negsuc 4294967294 → all.high ≡ pos 4294967295
    → MatchOption o ((z : ℤ) → InBoth d all z → ⊥) (λ w. IsHullOf (InBoth d all) w) → MatchOption o (Unit {0}) (λ w. (z : ℤ) → Holds w z ↔ InBoth d all z) → IsWord32 z → IsWord32 x → IsResult o (z -ℤ x) ↔ Holds d (z -ℤ x)
difference_part d all o z x el eh common each h k = met d all o (z -ℤ x) common each (in_differences all z x el eh h k)

small : (all : Interval) (z : ℤ) → negsuc 4294967294 ≤ℤ all.low → all.high ≤ℤ pos 4294967295 → Holds all z → unsigned_abs z < 2 ^ 50
small all z el eh h = omega (arith, ints, el, eh, h.above, h.below)

small_part : (r all : Interval) (o : Option Interval) → negsuc 4294967294 ≤ℤ all.low → all.high ≤ℤ pos 4294967295 → MatchOption o (Unit {0}) (λ w. (z : ℤ) → Holds w z ↔ InBoth r all z) → MatchOption o (Unit {0}) IsSized
small_part r all None el eh each = tt
small_part r all (Some w) el eh each = record {
  low_size = small all w.low el eh ((each w.low).0 (record { above = le_refl w.low; below = w.ordered })).1;
  high_size = small all w.high el eh ((each w.high).0 (record { above = w.ordered; below = le_refl w.high })).1;
}

pub small_words : (r all : Interval) (o : Option Interval) → all.low ≡ negsuc 2147483647 → all.high ≡ pos 2147483647 → MatchOption o (Unit {0}) (λ w. (z : ℤ) → Holds w z ↔ InBoth r all z) → MatchOption o (Unit {0}) IsSized
small_words r all o el eh each = small_part r all o (omega (arith, ints, el)) (omega (arith, ints, eh)) each

pub small_differences : (r all : Interval) (o : Option Interval) → all.low ≡ negsuc 4294967294 → all.high ≡ pos 4294967295 → MatchOption o (Unit {0}) (λ w. (z : ℤ) → Holds w z ↔ InBoth r all z) → MatchOption o (Unit {0}) IsSized
small_differences r all o el eh each = small_part r all o (omega (arith, ints, el)) (omega (arith, ints, eh)) each

-- ---- what a difference allows

pub differs_by : (op : Op) (boxes : List Interval) (d : Interval) (x z : ℤ) → IsChange op boxes d → Holds d (z -ℤ x) ↔ DiffersFrom op boxes x z
differs_by op boxes d x z h = (
  λ i e k. subst (λ (r : Interval). Holds r (z -ℤ x)) (change_once op boxes d e h k) i,
  λ f. f d h,
)
