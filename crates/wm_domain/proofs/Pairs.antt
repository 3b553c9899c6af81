-- Places that pick one after the other.
use Rattle.std.proofs.Common.{◌≡◌, ◌⊎◌, inl, inr, ℕ, zero, suc, ◌+◌, ◌-◌, ◌<◌, ◌≤◌, List, ◌++◌, length, Option, Some, None, refl, sym, ◌∙◌, ap, subst, arith}
use Rattle.std.specs.Prelude.{slice_index_or}
use Rattle.std.proofs.lemmas.List.{length-append, get_or_append_left, get_or-append_right}
use Rattle.wm_domain.specs.Changes.{ArePicks}
use Rattle.wm_domain.specs.Places.{placed, places_of}

pub side : (v n : ℕ) → (v < n) ⊎ (n ≤ v)
side v n = grind arith

some_of : (x y : ℕ) → Some x ≡ Some y → x ≡ y
some_of x y e = cc

none_some : {P : Type 0} (o : Option ℕ) (v : ℕ) → o ≡ None → o ≡ Some v → P
none_some o v e f = cc

below_zero : {P : Type 0} (k : ℕ) → k < 0 → P
below_zero k h = absurd (omega arith)

less_more : (k n : ℕ) → suc k < suc n → k < n
less_more k n h = omega arith

not_more : (k n : ℕ) → suc n ≤ suc k → n ≤ k
not_more k n h = omega arith

not_both : {P : Type 0} (k n : ℕ) → n ≤ k → k < n → P
not_both k n h l = absurd (omega arith)

own_place : (first : ℕ) → first ≡ first + 0
own_place first = omega arith

next_place : (first k : ℕ) → suc first + k ≡ first + suc k
next_place first k = omega arith

-- ---- one row of places

pub placed_length : (first count n : ℕ) → length (placed first count n) ≡ n
unfolding placed
placed_length first count zero = refl
placed_length first zero (suc n) = ap suc (placed_length first zero n)
placed_length first (suc count) (suc n) = ap suc (placed_length (suc first) count n)

pub placed_here : (first count n k : ℕ) → k < count → k < n → slice_index_or (placed first count n) k None ≡ Some (first + k)
unfolding placed
placed_here first count zero k h l = below_zero k l
placed_here first zero (suc n) k h l = below_zero k h
placed_here first (suc count) (suc n) zero h l = ap Some (own_place first)
placed_here first (suc count) (suc n) (suc k) h l = placed_here (suc first) count n k (less_more k count h) (less_more k n l) ∙ ap Some (next_place first k)

pub placed_past : (first count n k : ℕ) → count ≤ k → slice_index_or (placed first count n) k None ≡ None
unfolding placed
placed_past first count zero k h = refl
placed_past first zero (suc n) zero h = refl
placed_past first zero (suc n) (suc k) h = placed_past first zero n k (omega arith)
placed_past first (suc count) (suc n) zero h = not_both zero (suc count) h (omega arith)
placed_past first (suc count) (suc n) (suc k) h = placed_past (suc first) count n k (not_more k count h)

pub placed_out : (first count n k : ℕ) → n ≤ k → slice_index_or (placed first count n) k None ≡ None
unfolding placed
placed_out first count zero k h = refl
placed_out first zero (suc n) zero h = refl
placed_out first zero (suc n) (suc k) h = placed_out first zero n k (not_more k n h)
placed_out first (suc count) (suc n) zero h = not_both zero (suc n) h (omega arith)
placed_out first (suc count) (suc n) (suc k) h = placed_out (suc first) count n k (not_more k n h)

-- what is picked there is the one of that rank
pub record IsPlaced (first count n k v : ℕ) : Type 0 where
  pub rank : k < count
  pub place : k < n
  pub is : v ≡ first + k

pub placed_some : (first count n k v : ℕ) → slice_index_or (placed first count n) k None ≡ Some v → IsPlaced first count n k v
placed_some first count n k v e = elim (side k count) [
  | inl h ↦ elim (side k n) [
    | inl l ↦ record { rank = h; place = l; is = some_of v (first + k) (sym e ∙ placed_here first count n k h l) }
    | inr l ↦ none_some (slice_index_or (placed first count n) k None) v (placed_out first count n k l) e
  ]
  | inr h ↦ none_some (slice_index_or (placed first count n) k None) v (placed_past first count n k h) e
]

-- ---- a group and singles

pub places_length : (g n h m : ℕ) → length (places_of g n h m) ≡ h + m
unfolding places_of
places_length g n h m = length-append (placed 0 g h) (placed g n m) ∙ ap (λ (x : ℕ). x + length (placed g n m)) (placed_length 0 g h) ∙ ap (λ (x : ℕ). h + x) (placed_length g n m)

pub places_group : (g n h m k : ℕ) → k < h → slice_index_or (places_of g n h m) k None ≡ slice_index_or (placed 0 g h) k None
unfolding places_of
places_group g n h m k l = get_or_append_left (placed 0 g h) (placed g n m) None k (subst (λ (x : ℕ). k < x) (sym (placed_length 0 g h)) l)

pub places_single : (g n h m k : ℕ) → h ≤ k → slice_index_or (places_of g n h m) k None ≡ slice_index_or (placed g n m) (k - h) None
unfolding places_of
places_single g n h m k l = get_or-append_right (placed 0 g h) (placed g n m) h k None (placed_length 0 g h) l

pub data AreOf (g n h m k v : ℕ) : Type 0 where
  Grouped : k < h → v < g → v ≡ k → AreOf g n h m k v
  Single : h ≤ k → g ≤ v → v < g + n → v + h ≡ g + k → AreOf g n h m k v

single_of : (g n h m k v : ℕ) → h ≤ k → IsPlaced g n m (k - h) v → AreOf g n h m k v
single_of g n h m k v l i = let a = i.rank in let b = i.is in Single l (omega arith) (omega arith) (omega arith)

group_of : (g n h m k v : ℕ) → k < h → IsPlaced 0 g h k v → AreOf g n h m k v
group_of g n h m k v l i = let a = i.rank in let b = i.is in Grouped l (omega arith) (omega arith)

pub places_some : (g n h m k v : ℕ) → slice_index_or (places_of g n h m) k None ≡ Some v → AreOf g n h m k v
places_some g n h m k v e = elim (side k h) [
  | inl l ↦ group_of g n h m k v l (placed_some 0 g h k v (sym (places_group g n h m k l) ∙ e))
  | inr l ↦ single_of g n h m k v l (placed_some g n m (k - h) v (sym (places_single g n h m k l) ∙ e))
]

below_of : (g n h m k v : ℕ) → AreOf g n h m k v → v < g + n
below_of g n h m k v (Grouped a b c) = omega (arith, b)
below_of g n h m k v (Single a b c d) = c

apart_of : (g n h m k l v : ℕ) → AreOf g n h m k v → AreOf g n h m l v → k ≡ l
apart_of g n h m k l v (Grouped a b c) (Grouped d e f) = omega (arith, c, f)
apart_of g n h m k l v (Grouped a b c) (Single d e f i) = omega (arith, b, e)
apart_of g n h m k l v (Single a b c d) (Grouped e f i) = omega (arith, b, f)
apart_of g n h m k l v (Single a b c d) (Single e f i j) = omega (arith, d, j)

-- no two places pick one
pub places_picks : (g n h m : ℕ) → ArePicks (g + n) (places_of g n h m)
places_picks g n h m = record {
  named = λ k v e. below_of g n h m k v (places_some g n h m k v e);
  apart = λ k l v e f. apart_of g n h m k l v (places_some g n h m k v e) (places_some g n h m l v f);
}

same_place : (first k l v : ℕ) → v ≡ first + k → v ≡ first + l → k ≡ l
same_place first k l v e f = omega arith

pub placed_picks : (count n : ℕ) → ArePicks count (placed 0 count n)
placed_picks count n = record {
  named = λ k v e. let i = placed_some 0 count n k v e in let a = i.rank in let b = i.is in omega arith;
  apart = λ k l v e f. same_place 0 k l v (placed_some 0 count n k v e).is (placed_some 0 count n l v f).is;
}
