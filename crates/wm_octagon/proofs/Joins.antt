-- The greater of each two bounds bound the least octagon of the points of both, and inclusion is seen bound by bound.
use Rattle.std.proofs.Common.{◌≡◌, ◌⊎◌, inl, inr, ℕ, zero, suc, ◌+◌, ◌-◌, ◌*◌, ◌<◌, ◌≤◌, ℤ, pos, ◌≤ℤ◌, List, [], ◌++◌, take, drop, length, sym, ◌∙◌, ap, subst, arith}
use Rattle.std.proofs.lemmas.Int.{ints, clamps}
use Rattle.std.proofs.lemmas.Bool.{cases_lt}
use Rattle.std.proofs.lemmas.List.{get_or_past, drop_all, append-nil, take_all}
use Rattle.std.proofs.lemmas.List.FromFn.{get_or-map-range_with_len, length-map-range_with_len}
use Rattle.std.specs.Int.{int_max}
use Rattle.wm_octagon.specs.Layout.{row_len, row_start, entry}
use Rattle.wm_octagon.specs.HalfTable.{IsSmall, IsWhole}
use Rattle.wm_octagon.specs.Ways.{at}
use Rattle.wm_octagon.specs.Points.{IsPoint, IsTight, LeastOctagon}
use Rattle.wm_octagon.specs.Joining.{greater_of, IsBelow}
use Rattle.wm_octagon.proofs.Rows.{row_start-more, place-lt}
use Rattle.wm_octagon.proofs.Small.{small-zero}

pub at-greater_of : (xs ys : List ℤ) (i : ℕ) → i < length xs → at (greater_of xs ys) i ≡ int_max (at xs i) (at ys i)
at-greater_of xs ys i h = get_or-map-range_with_len (λ j. int_max (at xs j) (at ys j)) 0 (length xs) i i (pos 0) h (omega arith)

pub length-greater_of : (xs ys : List ℤ) → length (greater_of xs ys) ≡ length xs
length-greater_of xs ys = length-map-range_with_len (λ j. int_max (at xs j) (at ys j)) 0 (length xs)

max_left : (x y : ℤ) → x ≤ℤ int_max x y
max_left x y = omega (arith, ints, clamps)

max_right : (x y : ℤ) → y ≤ℤ int_max x y
max_right x y = omega (arith, ints, clamps)

max_is : (x y : ℤ) → (int_max x y ≡ x) ⊎ (int_max x y ≡ y)
max_is x y = grind (arith, ints)

pub small-greater_of : (xs ys : List ℤ) → ((i : ℕ) → IsSmall (at xs i)) → ((i : ℕ) → IsSmall (at ys i)) → (i : ℕ) → IsSmall (at (greater_of xs ys) i)
small-greater_of xs ys p q i = elim (cases_lt i (length xs)) [
  | inl inside ↦ elim (max_is (at xs i) (at ys i)) [
    | inl e ↦ subst IsSmall (sym (at-greater_of xs ys i inside ∙ e)) (p i)
    | inr e ↦ subst IsSmall (sym (at-greater_of xs ys i inside ∙ e)) (q i)
  ]
  | inr past ↦ subst IsSmall (sym (get_or_past (greater_of xs ys) i (pos 0) (let e = length-greater_of xs ys in omega arith))) small-zero
]

-- the greater of two tight lists
pub join-least : (n : ℕ) (xs ys : List ℤ) → length xs ≡ row_start (2 * n) → IsTight n xs → IsTight n ys → LeastOctagon n (λ x. IsPoint n xs x ⊎ IsPoint n ys x) (greater_of xs ys)
join-least n xs ys long s t =
    let here = λ (k l : ℕ) (hk : k < 2 * n) (hl : l < row_len k). at-greater_of xs ys (l + row_start k) (let p = place-lt (2 * n) k l hk hl in omega arith) in
    record {
      some = s.point;
      some_is = inl s.is_point;
      holds = λ x p. record {
        meets = λ k l hk hl.
            let e = here k l hk hl in
            let a = max_left (entry xs k l) (entry ys k l) in
            let b = max_right (entry xs k l) (entry ys k l) in
            elim p [
              | inl q ↦ (let m = q.meets k l hk hl in omega (arith, ints))
              | inr q ↦ (let m = q.meets k l hk hl in omega (arith, ints))
            ];
      };
      attained = λ k l hk hl.
          let e = here k l hk hl in
          elim (max_is (entry xs k l) (entry ys k l)) [
            | inl f ↦ (let a = s.attained k l hk hl in record { x = a.x; is = inl a.is; gives = a.gives ∙ sym (e ∙ f) })
            | inr f ↦ (let a = t.attained k l hk hl in record { x = a.x; is = inr a.is; gives = a.gives ∙ sym (e ∙ f) })
          ];
    }

-- each index of the list is that of an entry
record PlaceOf (n i : ℕ) : Type 0 where
  k : ℕ
  l : ℕ
  row : k < n
  column : l < row_len k
  there : i ≡ l + row_start k

place_of : (n i : ℕ) → i < row_start n → PlaceOf n i
place_of zero i h = absurd (omega arith)
place_of (suc n) i h = elim (cases_lt i (row_start n)) [
  | inl before ↦ (let p = place_of n i before in record { k = p.k; l = p.l; row = (let r = p.row in omega arith); column = p.column; there = p.there })
  | inr after ↦ (
      let m = row_start-more n in
      record { k = n; l = i - row_start n; row = omega arith; column = omega arith; there = omega arith })
]

-- a point of the lower list is one of the higher
pub below_points : (n : ℕ) (xs ys : List ℤ) → length xs ≡ row_start (2 * n) → IsBelow xs ys → (x : ℕ → ℤ) → IsPoint n xs x → IsPoint n ys x
below_points n xs ys long b x p = record {
  meets = λ k l hk hl.
      let m = p.meets k l hk hl in
      let e = b.each (l + row_start k) (let q = place-lt (2 * n) k l hk hl in omega arith) in
      omega (arith, ints);
}

-- where each point of a tight list is one of another, each bound is at most the other
pub points_below : (n : ℕ) (xs ys : List ℤ) → length xs ≡ row_start (2 * n) → IsTight n xs → ((x : ℕ → ℤ) → IsPoint n xs x → IsPoint n ys x) → IsBelow xs ys
points_below n xs ys long t sub = record {
  each = λ i h.
      let p = place_of (2 * n) i (omega arith) in
      let a = t.attained p.k p.l p.row p.column in
      let g = a.gives in
      let m = (sub a.x a.is).meets p.k p.l p.row p.column in
      let at_place : at xs (p.l + row_start p.k) ≤ℤ at ys (p.l + row_start p.k) = omega (arith, ints) in
      subst (λ j. at xs j ≤ℤ at ys j) (sym p.there) at_place;
}

-- what a whole list holds after all of it was written
pub all_written : (items new : List ℤ) (len : ℕ) → length new ≡ length items → length new ≤ len → take len (new ++ drop (length new) items) ≡ new
all_written items new len e h =
    let rest : drop (length new) items ≡ [] = drop_all (length new) items (omega arith) in
    ap (λ ys. take len (new ++ ys)) rest ∙ ap (take len) (append-nil new) ∙ take_all len new h

pub whole-greater_of : (n : ℕ) (xs ys : List ℤ) → IsWhole n xs → ((i : ℕ) → IsSmall (at ys i)) → IsWhole n (greater_of xs ys)
whole-greater_of n xs ys w s = record {
  few = w.few;
  long = length-greater_of xs ys ∙ w.long;
  small = small-greater_of xs ys w.small s;
}
