-- Shapes of variables of 32 bits.
use Rattle.std.proofs.Common.{◌≡◌, ◌⊎◌, inl, inr, ℕ, zero, suc, ◌+◌, ◌-◌, ◌<◌, ◌≤◌, List, [], ◌∷◌, ◌++◌, length, length-append, All, refl, sym, ◌∙◌, ap, subst, arith}
use Rattle.std.specs.Prelude.{Result, Ok, Err, OnOk, Option, Some, None, MatchOption}
use Rattle.wm_middle.specs.declared.parts.Part.{Part}
use Rattle.wm_middle.specs.declared.parts.Part.TheVariants.{Caller, Parameter}
use Rattle.std.proofs.lemmas.Int.{ints}
use Rattle.std.proofs.lemmas.List.{get_or_append_left, get_or-append_right}
use Rattle.wm_interval.specs.declared.Interval.{Interval}
use Rattle.wm_domain.specs.declared.shape.Shape.{Shape}
use Rattle.wm_domain.specs.Points.{range_at, nought, IsNarrow}
use Rattle.wm_domain.specs.States.{IsShape}
use Rattle.wm_middle.specs.Parting.{AreWords, IsMiddle, AreParts, IsFound, IsFoundAmong, IsApart, part_at}

pub on_ok_map : {A E : Type 0} (r : Result A E) (P Q : Type 0) → (P → Q) → OnOk r P → OnOk r Q
on_ok_map (Ok x) P Q f h = f h
on_ok_map (Err e) P Q f h = tt

words_narrow : (r : Interval) → AreWords r → IsNarrow r
words_narrow r e = record {
  low_fits = record { above = omega (arith, ints, e.0); below = omega (arith, ints, e.0) };
  high_fits = record { above = omega (arith, ints, e.1); below = omega (arith, ints, e.1) };
}

all_narrow : (xs : List Interval) → ((k : ℕ) → k < length xs → AreWords (range_at xs k)) → All IsNarrow xs
all_narrow [] h k d l = absurd (omega (arith, l))
all_narrow (x ∷ xs) h zero d l = words_narrow x (h 0 (omega arith))
all_narrow (x ∷ xs) h (suc k) d l = all_narrow xs (λ j q. h (suc j) (omega (arith, q))) k d (omega (arith, l))

side : (v n : ℕ) → (v < n) ⊎ (n ≤ v)
side v n = grind arith

past : (n m v : ℕ) → n ≤ v → v < n + m → v - n < m
past n m v h k = omega arith

all_words : (xs ys : List Interval) (n : ℕ) → length xs + length ys ≡ n → ((k : ℕ) → k < length xs → AreWords (range_at xs k)) → ((k : ℕ) → k < length ys → AreWords (range_at ys k)) → (k : ℕ) → k < n → AreWords (range_at (xs ++ ys) k)
all_words xs ys n e h k v l = elim (side v (length xs)) [
  | inl a ↦ subst AreWords (sym (get_or_append_left xs ys nought v a)) (h v a)
  | inr b ↦ subst AreWords (sym (get_or-append_right xs ys (length xs) v nought refl b)) (k (v - length xs) (past (length xs) (length ys) v b (subst (λ (x : ℕ). v < x) (sym e) l)))
]

pub middle_shape : (target : Shape) (group singles arrays : List Interval) (n count : ℕ) → IsShape target → length group ≡ n → length singles ≡ count - n → n ≤ 32 → n ≤ count → arrays ≡ target.arrays
    → ((k : ℕ) → k < n → AreWords (range_at group k)) → ((k : ℕ) → k < count - n → AreWords (range_at singles k)) → IsMiddle target count (record { group = group; singles = singles; arrays = arrays })
middle_shape target group singles arrays n count s eg es few inside ea wg ws =
    let hg : (k : ℕ) → k < length group → AreWords (range_at group k) = λ k l. wg k (subst (λ (x : ℕ). k < x) eg l) in
    let hs : (k : ℕ) → k < length singles → AreWords (range_at singles k) = λ k l. ws k (subst (λ (x : ℕ). k < x) es l) in
    let both : length group + length singles ≡ count = omega (arith, eg, es, inside) in
    record {
      shape = record {
        few = subst (λ (x : ℕ). x ≤ 32) (sym eg) few;
        group = all_narrow group hg;
        singles = all_narrow singles hs;
        arrays = subst (λ (xs : List Interval). All IsNarrow xs) (sym ea) s.arrays;
      };
      long = length-append group singles ∙ both;
      words = all_words group singles count both hg hs;
      arrays = ea;
    }

-- ---- parts

end_part : (parts : List Part) (part : Part) (k : ℕ) → k ≡ length parts → part_at (parts ++ part ∷ []) k ≡ part
end_part [] part k e = subst (λ (x : ℕ). part_at (part ∷ []) x ≡ part) (sym e) refl
end_part (x ∷ parts) part zero e = absurd (omega (arith, e))
end_part (x ∷ parts) part (suc k) e = end_part parts part k (omega (arith, e))

push_apart : (parts : List Part) (part other : Part) (count : ℕ) → (part ≡ other → ⊥) → IsApart count parts other → (k : ℕ) → count ≤ k → k < length (parts ++ part ∷ []) → part_at (parts ++ part ∷ []) k ≡ other → ⊥
push_apart parts part other count d h k l m e = elim (side k (length parts)) [
  | inl a ↦ h k l a (sym (get_or_append_left parts (part ∷ []) (Caller 0) k a) ∙ e)
  | inr b ↦ d (sym (end_part parts part k (omega (arith, b, m, length-append parts (part ∷ [])))) ∙ e)
]

pub still_apart : (parts more : List Part) (part other : Part) (count : ℕ) → more ≡ parts ++ part ∷ [] → (part ≡ other → ⊥) → IsApart count parts other → IsApart count more other
still_apart parts more part other count e d h = subst (λ (xs : List Part). IsApart count xs other) (sym e) (push_apart parts part other count d h)

pub found_all : (parts : List Part) (part : Part) (o : Option ℕ) → IsFoundAmong (length parts) parts part o → IsFound parts part o
found_all parts part None h = h
found_all parts part (Some k) h = h

-- what is none of the first so many parts, and none of those behind, is none of all
pub found_none : (count : ℕ) (parts : List Part) (part : Part) → IsFoundAmong count parts part None → IsApart count parts part → IsFound parts part None
found_none count parts part f h = λ k l. elim (side k count) [
  | inl a ↦ f k a
  | inr b ↦ h k b l
]

-- behind all parts there is none
pub none_behind : (count : ℕ) (parts : List Part) (part : Part) → count ≡ length parts → IsApart count parts part
none_behind count parts part e = λ k h l. absurd (omega (arith, e, h, l))

pub match_below : (n : ℕ) (o : Option ℕ) → ((v : ℕ) → o ≡ Some v → v < n) → MatchOption o (Unit {0}) (λ v. v < n)
match_below n None h = tt
match_below n (Some v) h = h v refl

pub match_both : (n : ℕ) (o : Option ℕ) (P : ℕ → Type 0) → ((v : ℕ) → o ≡ Some v → v < n) → ((v : ℕ) → o ≡ Some v → P v) → MatchOption o (Unit {0}) (λ v. (v < n) × P v)
match_both n None P h k = tt
match_both n (Some v) P h k = (h v refl, k v refl)

pub later : (k i : ℕ) → k + 1 ≤ i → k ≡ i → ⊥
later k i h e = omega (arith, h, e)

abbrev caller_or : Part → ℕ → ℕ
caller_or (Caller v) d = v
caller_or (Parameter v) d = d

pub caller_same : (v w : ℕ) → Caller v ≡ Caller w → v ≡ w
caller_same v w e = ap (λ (x : Part). caller_or x 0) e

pub no_parts : (n m most : ℕ) (parts : List Part) → parts ≡ [] → AreParts n m most parts
no_parts n m most parts e = subst (AreParts n m most) (sym e) (record {
  few = omega arith;
  each = λ k h. absurd (omega (arith, h));
  distinct = λ k l h q s. absurd (omega (arith, h));
})

pub more_parts : (n m most more : ℕ) (parts : List Part) → most ≤ more → AreParts n m most parts → AreParts n m more parts
more_parts n m most more parts h a = record { few = omega (arith, h, a.few); each = a.each; distinct = a.distinct }
