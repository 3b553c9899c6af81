-- Where variables come from: each from one of the node before, and no two from one.
use Rattle.std.proofs.Common.{◌≡◌, ◌⊎◌, inl, inr, ℕ, ◌+◌, ◌-◌, ◌<◌, ◌≤◌, List, [], ◌∷◌, zero, suc, length, length-append, true, false, nat_lt, Option, Some, None, refl, sym, ◌∙◌, ap, subst, arith}
use Rattle.std.specs.Prelude.{slice_index_or}
use Rattle.wm_domain.specs.declared.shape.Shape.{Shape}
use Rattle.wm_domain.specs.States.{count_of, array_count}
use Rattle.wm_carry.specs.Following.{origin_in, origin, array_origin}

pub side : (v n : ℕ) → (v < n) ⊎ (n ≤ v)
side v n = grind arith

some_of : {x y : ℕ} → Some x ≡ Some y → x ≡ y
some_of e = cc

pub none_of : {P : Type 0} {x : ℕ} → None ≡ Some x → P
none_of e = cc

pub in_here : (first count k : ℕ) → k < count → origin_in first count k ≡ Some (first + k)
in_here first count k h = let e : nat_lt k count ≡ true = grind arith in rw e refl

pub in_past : (first count k : ℕ) → count ≤ k → origin_in first count k ≡ None
in_past first count k h = let e : nat_lt k count ≡ false = grind arith in rw e refl

-- what comes from somewhere has a rank
pub in_some : (first count k w : ℕ) → origin_in first count k ≡ Some w → (k < count) × (w ≡ first + k)
in_some first count k w e = elim (side k count) [
  | inl h ↦ (h, some_of (sym e ∙ in_here first count k h))
  | inr h ↦ none_of (sym (in_past first count k h) ∙ e)
]

pub in_group : (s t : Shape) (v : ℕ) → v < length t.group → origin s t v ≡ origin_in 0 (length s.group) v
unfolding origin
in_group s t v h = let e : nat_lt v (length t.group) ≡ true = grind arith in rw e refl

pub in_singles : (s t : Shape) (v : ℕ) → length t.group ≤ v → origin s t v ≡ origin_in (length s.group) (length s.singles) (v - length t.group)
unfolding origin
in_singles s t v h = let e : nat_lt v (length t.group) ≡ false = grind arith in rw e refl

-- a variable of the group comes from its own place; a single from the same place among the singles
pub data Comes (s t : Shape) (v w : ℕ) : Type 0 where
  Grouped : v < length t.group → w < length s.group → w ≡ v → Comes s t v w
  Single : length t.group ≤ v → length s.group ≤ w → w < length s.group + length s.singles → w + length t.group ≡ length s.group + v → Comes s t v w

single_from : (g h n v w : ℕ) → g ≤ v → (v - g < n) × (w ≡ h + (v - g)) → (h ≤ w) × (w < h + n) × (w + g ≡ h + v)
single_from g h n v w k e = (omega (arith, e.1), omega (arith, e.0, e.1), omega (arith, e.1))

pub comes_of : (s t : Shape) (v w : ℕ) → origin s t v ≡ Some w → Comes s t v w
comes_of s t v w e = elim (side v (length t.group)) [
  | inl h ↦ let i = in_some 0 (length s.group) v w (sym (in_group s t v h) ∙ e) in Grouped h (omega (arith, i.0, i.1)) (omega (arith, i.1))
  | inr h ↦
      let i = single_from (length t.group) (length s.group) (length s.singles) v w h (in_some (length s.group) (length s.singles) (v - length t.group) w (sym (in_singles s t v h) ∙ e)) in
      Single h i.0 i.1 i.2
]

below_of : (s t : Shape) (v w : ℕ) → Comes s t v w → w < length s.group + length s.singles
below_of s t v w (Grouped h k e) = omega (arith, k)
below_of s t v w (Single h k l e) = l

pub count_is : (s : Shape) → count_of s ≡ length s.group + length s.singles
count_is s = length-append s.group s.singles

pub origin_below : (s t : Shape) (v w : ℕ) → origin s t v ≡ Some w → w < count_of s
origin_below s t v w e = subst (λ (n : ℕ). w < n) (sym (count_is s)) (below_of s t v w (comes_of s t v w e))

apart_of : (s t : Shape) (v u w : ℕ) → Comes s t v w → Comes s t u w → v ≡ u
apart_of s t v u w (Grouped h k e) (Grouped i l f) = omega (arith, e, f)
apart_of s t v u w (Grouped h k e) (Single i l m f) = omega (arith, k, l)
apart_of s t v u w (Single h k l e) (Grouped i m f) = omega (arith, k, m)
apart_of s t v u w (Single h k l e) (Single i m n f) = omega (arith, e, f)

-- no two variables come from one
pub origin_apart : (s t : Shape) (v u w : ℕ) → origin s t v ≡ Some w → origin s t u ≡ Some w → v ≡ u
origin_apart s t v u w e f = apart_of s t v u w (comes_of s t v w e) (comes_of s t u w f)

-- ---- picks

past_none : (picks : List (Option ℕ)) (k : ℕ) → length picks ≤ k → slice_index_or picks k None ≡ None
past_none [] k h = refl
past_none (x ∷ rest) zero h = absurd (omega (arith, h))
past_none (x ∷ rest) (suc k) h = past_none rest k (omega (arith, h))

-- what is picked stands in the list
pub picked_here : (picks : List (Option ℕ)) (k v : ℕ) → slice_index_or picks k None ≡ Some v → k < length picks
picked_here picks k v e = elim (side k (length picks)) [
  | inl h ↦ h
  | inr h ↦ none_of (sym (past_none picks k h) ∙ e)
]

none_more : (a : ℕ) → 0 + a ≡ a
none_more a = omega arith

pub array_here : (s : Shape) (a : ℕ) → a < array_count s → array_origin s a ≡ Some a
unfolding array_origin
array_here s a h = in_here 0 (array_count s) a h ∙ ap Some (none_more a)

pub array_new : (s : Shape) (a : ℕ) → array_count s ≤ a → array_origin s a ≡ None
unfolding array_origin
array_new s a h = in_past 0 (array_count s) a h
