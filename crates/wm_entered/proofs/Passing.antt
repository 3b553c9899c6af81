-- Points between a call's node and the callee's first node.
use Rattle.std.proofs.Common.{◌≡◌, ◌⊎◌, inl, inr, ℕ, ◌<◌, ◌^◌, ℤ, ◌≤ℤ◌, List, length, Option, Some, None, refl, sym, ◌∙◌, ap, subst, arith}
use Rattle.std.specs.Prelude.{All, slice_index_or, Result, Ok, Err, OnOk}
use Rattle.wm_numbers.specs.Within.{IsWord32}
use Rattle.wm_interval.specs.declared.Interval.{Interval}
use Rattle.wm_interval.specs.Holds.{Holds}
use Rattle.wm_domain.specs.declared.shape.Shape.{Shape}
use Rattle.wm_domain.specs.Points.{Point, range_at}
use Rattle.wm_domain.specs.States.{variables_of, count_of, IsShape, InShape}
use Rattle.wm_domain.specs.Forms.{IsForm}
use Rattle.wm_domain.specs.Changes.{IsPicked, IsPickedCell, ArePicks, Projected}
use Rattle.wm_flow.specs.declared.action.Argument.{Argument}
use Rattle.wm_carry.proofs.Ranks.{picked_here}
use Rattle.wm_filters.proofs.Staying.{word_at}
use Rattle.wm_middle.specs.declared.parts.Part.{Part}
use Rattle.wm_middle.specs.declared.parts.Part.TheVariants.{Caller, Parameter}
use Rattle.wm_middle.specs.Parting.{part_at, part_value, caller_of, AreParts, IsPartOf, IsArgument, AreWords, IsMiddle, IsBack, IsBackPart}
use Rattle.wm_filters.specs.Stays.{Stays}
use Rattle.wm_entered.specs.Crossing.{middle_point, Crosses, AreTaken}

some_of : {x y : ℕ} → Some x ≡ Some y → x ≡ y
some_of e = cc

none_of : {P : Type 0} {x : ℕ} → None ≡ Some x → P
none_of e = cc

-- ---- parts

caller_is : (part : Part) (v : ℕ) → caller_of part ≡ Some v → part ≡ Caller v
caller_is (Caller w) v e = ap Caller (some_of e)
caller_is (Parameter w) v e = none_of e

pub taken_parts : (n m most : ℕ) (parts : List Part) → AreParts n m most parts → AreTaken n parts
taken_parts n m most parts a = record {
  each = λ k v h e. subst (IsPartOf n m) e (a.each k h);
  distinct = a.distinct;
}

pub caller_picks : (n : ℕ) (parts : List Part) (picks : List (Option ℕ)) → AreTaken n parts → length picks ≡ length parts → ((k : ℕ) → k < length parts → slice_index_or picks k None ≡ caller_of (part_at parts k)) → ArePicks n picks
caller_picks n parts picks a long each = record {
  named = λ k v e. let h = here k v e in a.each k v h (is k v e);
  apart = λ k l v e f. a.distinct k l (here k v e) (here l v f) (is k v e ∙ sym (is l v f));
}
  where
    here : (k v : ℕ) → slice_index_or picks k None ≡ Some v → k < length parts
    here k v e = subst (λ (x : ℕ). k < x) long (picked_here picks k v e)

    is : (k v : ℕ) → slice_index_or picks k None ≡ Some v → part_at parts k ≡ Caller v
    is k v e = caller_is (part_at parts k) v (sym (each k (here k v e)) ∙ e)

picked_caller : (part : Part) (was p : Point) → IsPicked (caller_of part) was (part_value was p part)
picked_caller (Caller v) was p = refl
picked_caller (Parameter v) was p = tt

-- the point between is what is projected from the caller
pub toward_middle : (Has : Point → Type 0) (parts : List Part) (picks arrays : List (Option ℕ)) (was p : Point) → length picks ≡ length parts → ((k : ℕ) → k < length parts → slice_index_or picks k None ≡ caller_of (part_at parts k))
    → Has was → ((a : ℕ) → a < length arrays → IsPickedCell (slice_index_or arrays a None) was (p.cells a)) → Projected Has picks arrays (middle_point parts was p)
toward_middle Has parts picks arrays was p long each h cells = record {
  was = was;
  point = h;
  numbers = λ v hv. subst (λ (o : Option ℕ). IsPicked o was (part_value was p (part_at parts v))) (sym (each v (subst (λ (x : ℕ). v < x) long hv))) (picked_caller (part_at parts v) was p);
  cells = cells;
}

-- ---- the point between lies in the full ranges

word_holds : (r : Interval) (z : ℤ) → AreWords r → IsWord32 z → Holds r z
word_holds r z e w = record { above = subst (λ (x : ℤ). x ≤ℤ z) (sym e.0) w.above; below = subst (λ (x : ℤ). z ≤ℤ x) (sym e.1) w.below }

part_word : (s t : Shape) (part : Part) (was p : Point) → IsShape s → IsShape t → InShape s was → InShape t p → IsPartOf (count_of s) (count_of t) part → IsWord32 (part_value was p part)
part_word s t (Caller v) was p hs ht i j h = word_at s was v hs i h
part_word s t (Parameter v) was p hs ht i j h = word_at t p v ht j h

pub middle_inside : (s t middle : Shape) (parts : List Part) (was p : Point) (most : ℕ) → IsShape s → IsShape t → AreParts (count_of s) (count_of t) most parts → IsMiddle t (length parts) middle → InShape s was → InShape t p → InShape middle (middle_point parts was p)
middle_inside s t middle parts was p most hs ht a m i j = record {
  numbers = λ v h. let k = subst (λ (x : ℕ). v < x) m.long h in word_holds (range_at (variables_of middle) v) (part_value was p (part_at parts v)) (m.words v k) (part_word s t (part_at parts v) was p hs ht i j (a.each v k));
  set_cells = λ b z h e. subst (λ (xs : List Interval). Holds (range_at xs b) z) (sym m.arrays) (j.set_cells b z (subst (λ (xs : List Interval). b < length xs) m.arrays h) e);
}

-- ---- the way back

back_value : (part : Part) (v : ℕ) (pick : Option ℕ) (was p : Point) → IsBackPart v pick part → IsPicked pick was (p.values v) → p.values v ≡ part_value was p part
back_value (Caller w) v pick was p b h = subst (λ (o : Option ℕ). IsPicked o was (p.values v)) b h
back_value (Parameter u) v pick was p b h = ap p.values (sym b)

back_picked : (parts : List Part) (v : ℕ) (pick place : Option ℕ) (was p : Point) → IsBack parts v pick place → IsPicked pick was (p.values v) → IsPicked place (middle_point parts was p) (p.values v)
back_picked parts v pick None was p b h = tt
back_picked parts v pick (Some k) was p b h = back_value (part_at parts k) v pick was p b.1 h

pub back_from : (Has : Point → Type 0) (parts : List Part) (picks places arrays : List (Option ℕ)) (was p : Point) → length places ≡ length picks
    → ((v : ℕ) → v < length picks → IsBack parts v (slice_index_or picks v None) (slice_index_or places v None)) → ((a : ℕ) → a < length arrays → slice_index_or arrays a None ≡ Some a)
    → Has (middle_point parts was p) → ((v : ℕ) → v < length picks → IsPicked (slice_index_or picks v None) was (p.values v)) → Projected Has places arrays p
back_from Has parts picks places arrays was p long each ids h numbers = record {
  was = middle_point parts was p;
  point = h;
  numbers = λ v hv. let k = subst (λ (x : ℕ). v < x) long hv in back_picked parts v (slice_index_or picks v None) (slice_index_or places v None) was p (each v k) (numbers v k);
  cells = λ a ha. subst (λ (o : Option ℕ). IsPickedCell o (middle_point parts was p) (p.cells a)) (sym (ids a ha)) refl;
}

back_same : (part : Part) (k l : ℕ) (one other : Option ℕ) → IsBackPart k one part → IsBackPart l other part → (k ≡ l) ⊎ ((w : ℕ) × (one ≡ Some w) × (other ≡ Some w))
back_same (Caller w) k l one other b c = inr (w, b, c)
back_same (Parameter u) k l one other b c = inl (sym b ∙ c)

pub back_picks : (parts : List Part) (picks places : List (Option ℕ)) → length places ≡ length picks → ((v : ℕ) → v < length picks → IsBack parts v (slice_index_or picks v None) (slice_index_or places v None))
    → ((k l v : ℕ) → slice_index_or picks k None ≡ Some v → slice_index_or picks l None ≡ Some v → k ≡ l) → ArePicks (length parts) places
back_picks parts picks places long each apart = record {
  named = λ k v e. (at k v e).0;
  apart = λ k l v e f. elim (back_same (part_at parts v) k l (slice_index_or picks k None) (slice_index_or picks l None) (at k v e).1 (at l v f).1) [
    | inl same ↦ same
    | inr both ↦ apart k l both.0 both.1 both.2
  ];
}
  where
    at : (k v : ℕ) → slice_index_or places k None ≡ Some v → (v < length parts) × IsBackPart k (slice_index_or picks k None) (part_at parts v)
    at k v e = subst (λ (o : Option ℕ). IsBack parts k (slice_index_or picks k None) o) e (each k (subst (λ (x : ℕ). k < x) long (picked_here places k v e)))

pub own_places : (n : ℕ) (arrays : List (Option ℕ)) → length arrays ≡ n → ((a : ℕ) → a < n → slice_index_or arrays a None ≡ Some a) → ArePicks n arrays
own_places n arrays long each = record {
  named = λ k a e. subst (λ (x : ℕ). x < n) (is k a e) (here k a e);
  apart = λ k l a e f. is k a e ∙ sym (is l a f);
}
  where
    here : (k a : ℕ) → slice_index_or arrays k None ≡ Some a → k < n
    here k a e = subst (λ (x : ℕ). k < x) long (picked_here arrays k a e)

    is : (k a : ℕ) → slice_index_or arrays k None ≡ Some a → k ≡ a
    is k a e = some_of (sym (each k (here k a e)) ∙ e)

-- ---- arguments

pub forms_of : (n m : ℕ) (arguments : List Argument) → All (IsArgument n m) arguments → All (λ (it : Argument). IsForm n it.form) arguments
forms_of n m arguments h = λ k d l. (h k d l).0

-- ---- one change after another

pub crosses_same : {S : Type 0} (Holds_of : S → Point → Type 0) (shape : Shape) (parts : List Part) (old : S) (Cond : Point → Point → Type 0) → Crosses Holds_of shape parts old old Cond
crosses_same Holds_of shape parts old Cond = record { kept = λ was p i h k. h }

pub crosses_then : {S : Type 0} (Holds_of : S → Point → Type 0) (shape other : Shape) (parts : List Part) (old mid new : S) (Cond Next : Point → Point → Type 0) → other ≡ shape → ((was p : Point) → Cond was p → Next was p)
    → Crosses Holds_of shape parts old mid Cond → Crosses Holds_of other parts mid new Next → Crosses Holds_of shape parts old new Cond
crosses_then Holds_of shape other parts old mid new Cond Next e to a b = record {
  kept = λ was p i h k. b.kept was p (subst (λ (x : Shape). InShape x (middle_point parts was p)) (sym e) i) (a.kept was p i h k) (to was p k);
}

-- a change that keeps each point of which something is so keeps the points between of which it is so
pub crosses_of : {S : Type 0} (Holds_of : S → Point → Type 0) (shape : Shape) (parts : List Part) (old new : S) (Cond : Point → Point → Type 0) (Next : Point → Type 0) → ((was p : Point) → Cond was p → Next (middle_point parts was p))
    → Stays Holds_of shape old new Next → Crosses Holds_of shape parts old new Cond
crosses_of Holds_of shape parts old new Cond Next to a = record { kept = λ was p i h k. a.kept (middle_point parts was p) i h (to was p k) }

pub crosses_more : {S : Type 0} (Holds_of : S → Point → Type 0) (shape : Shape) (parts : List Part) (old new : S) (Cond Next : Point → Point → Type 0) → ((was p : Point) → Cond was p → Next was p)
    → Crosses Holds_of shape parts old new Next → Crosses Holds_of shape parts old new Cond
crosses_more Holds_of shape parts old new Cond Next to a = record { kept = λ was p i h k. a.kept was p i h (to was p k) }

pub on_ok_map : {A E : Type 0} (r : Result A E) (P Q : Type 0) → (P → Q) → OnOk r P → OnOk r Q
on_ok_map (Ok x) P Q f h = f h
on_ok_map (Err e) P Q f h = tt

pub few_parts : (n m : ℕ) (parts : List Part) → AreParts n m 4294967295 parts → length parts < 2 ^ 32
few_parts n m parts a = omega (arith, a.few)
