-- A point of all variables but one meets the bounds of a table that do not speak of that one. Then it has a number for that
-- one too: so to forget a variable is exact on whole numbers.
use Rattle.std.proofs.Common.{◌≡◌, ◌≢◌, ◌⊎◌, inl, inr, ℕ, ◌+◌, ◌*◌, ◌/◌, ◌<◌, ℤ, pos, ◌+ℤ◌, ◌-ℤ◌, ◌≤ℤ◌, neg_ℤ, sym, ◌∙◌, ap, subst, arith, nat_eq, true, false, cond, refl}
use Rattle.std.proofs.lemmas.Int.{ints}
use Rattle.wm_octagon.specs.Layout.{opposite}
use Rattle.wm_octagon.specs.Closing.{top}
use Rattle.wm_octagon.specs.Points.{side_value}
use Rattle.wm_octagon.proofs.Tables.{IsTable, opposite-lt, opposite-opposite}
use Rattle.wm_octagon.proofs.Attained.{Meets, side_value-opposite}
use Rattle.wm_octagon.proofs.Moves.{moved, moved-here, moved-there, side_plus, side_minus, side_other, Which, plus, minus, other, which}
use Rattle.wm_ties.proofs.Between.{Between, between}

-- the most that side k leaves to variable v, and the least
pub upper : (ℕ → ℕ → ℤ) → (ℕ → ℤ) → ℕ → ℕ → ℤ
upper m x v k = cond (nat_eq (k / 2) v) (top m (2 * v)) (side_value x k +ℤ m k (2 * v))

pub lower : (ℕ → ℕ → ℤ) → (ℕ → ℤ) → ℕ → ℕ → ℤ
lower m x v k = cond (nat_eq (k / 2) v) (neg_ℤ (top m (2 * v + 1))) (neg_ℤ (side_value x k) -ℤ m k (2 * v + 1))

pub upper-own : (m : ℕ → ℕ → ℤ) (x : ℕ → ℤ) (v k : ℕ) → k / 2 ≡ v → upper m x v k ≡ top m (2 * v)
unfolding upper
upper-own m x v k h = let e : nat_eq (k / 2) v ≡ true = grind arith in rw e refl

pub upper-other : (m : ℕ → ℕ → ℤ) (x : ℕ → ℤ) (v k : ℕ) → k / 2 ≢ v → upper m x v k ≡ side_value x k +ℤ m k (2 * v)
unfolding upper
upper-other m x v k h = let e : nat_eq (k / 2) v ≡ false = grind arith in rw e refl

pub lower-own : (m : ℕ → ℕ → ℤ) (x : ℕ → ℤ) (v k : ℕ) → k / 2 ≡ v → lower m x v k ≡ neg_ℤ (top m (2 * v + 1))
unfolding lower
lower-own m x v k h = let e : nat_eq (k / 2) v ≡ true = grind arith in rw e refl

pub lower-other : (m : ℕ → ℕ → ℤ) (x : ℕ → ℤ) (v k : ℕ) → k / 2 ≢ v → lower m x v k ≡ neg_ℤ (side_value x k) -ℤ m k (2 * v + 1)
unfolding lower
lower-other m x v k h = let e : nat_eq (k / 2) v ≡ false = grind arith in rw e refl

pub own_or : (v k : ℕ) → (k / 2 ≡ v) ⊎ (k / 2 ≢ v)
own_or v k = elim (which v k) [ plus e ↦ inl (omega arith) | minus e ↦ inl (omega arith) | other h ↦ inr h ]

module _ (n : ℕ) (m : ℕ → ℕ → ℤ) (t : IsTable n m) (v : ℕ) (hv : v < n) where
  plus_in : 2 * v < 2 * n
  plus_in = omega arith

  minus_in : 2 * v + 1 < 2 * n
  minus_in = omega arith

  plus_opposite : opposite (2 * v) ≡ 2 * v + 1
  plus_opposite = omega arith

  minus_opposite : opposite (2 * v + 1) ≡ 2 * v
  minus_opposite = omega arith

  -- the bounds of both sides of v are even
  pub even_plus : m (2 * v + 1) (2 * v) ≡ top m (2 * v) +ℤ top m (2 * v)
  even_plus = sym (ap (λ i. m i (2 * v)) plus_opposite) ∙ t.even (2 * v) plus_in

  pub even_minus : m (2 * v) (2 * v + 1) ≡ top m (2 * v + 1) +ℤ top m (2 * v + 1)
  even_minus = sym (ap (λ i. m i (2 * v + 1)) minus_opposite) ∙ t.even (2 * v + 1) minus_in

  -- a bound of v and another side, from the other side of the table
  turned_plus : (k : ℕ) → k < 2 * n → m (2 * v) (opposite k) ≡ m k (2 * v + 1)
  turned_plus k hk = t.coherent (2 * v) (opposite k) plus_in (opposite-lt n k hk) ∙ ap (λ i. m i (opposite (2 * v))) (opposite-opposite k) ∙ ap (m k) plus_opposite

  turned_minus : (k : ℕ) → k < 2 * n → m (2 * v + 1) (opposite k) ≡ m k (2 * v)
  turned_minus k hk = t.coherent (2 * v + 1) (opposite k) minus_in (opposite-lt n k hk) ∙ ap (λ i. m i (opposite (2 * v + 1))) (opposite-opposite k) ∙ ap (m k) minus_opposite

  own_room : neg_ℤ (top m (2 * v + 1)) ≤ℤ top m (2 * v)
  own_room =
      let a = even_plus in
      let b = even_minus in
      let s = t.same (2 * v) plus_in in
      let tri = t.triangle (2 * v) (2 * v + 1) (2 * v) plus_in minus_in plus_in in
      omega (arith, ints)

  module _ (x : ℕ → ℤ) (fits : (k l : ℕ) → k < 2 * n → l < 2 * n → k / 2 ≢ v → l / 2 ≢ v → (side_value x l -ℤ side_value x k) ≤ℤ m k l) where
    other_opposite : (k : ℕ) → k / 2 ≢ v → opposite k / 2 ≢ v
    other_opposite k h = let e : opposite k / 2 ≡ k / 2 = omega arith in λ q. h (sym e ∙ q)

    other_own : (k : ℕ) → k < 2 * n → k / 2 ≢ v → (neg_ℤ (side_value x k) -ℤ m k (2 * v + 1)) ≤ℤ top m (2 * v)
    other_own k hk h =
        let ok = opposite-lt n k hk in
        let f = fits k (opposite k) hk ok h (other_opposite k h) in
        let s = side_value-opposite x k in
        let t1 = t.triangle k (2 * v + 1) (opposite k) hk minus_in ok in
        let t2 = t.triangle (2 * v + 1) (2 * v) (opposite k) minus_in plus_in ok in
        let c = turned_plus k hk in
        let e = even_plus in
        omega (arith, ints)

    own_other : (l : ℕ) → l < 2 * n → l / 2 ≢ v → neg_ℤ (top m (2 * v + 1)) ≤ℤ (side_value x l +ℤ m l (2 * v))
    own_other l hl h =
        let ol = opposite-lt n l hl in
        let f = fits l (opposite l) hl ol h (other_opposite l h) in
        let s = side_value-opposite x l in
        let t1 = t.triangle l (2 * v) (opposite l) hl plus_in ol in
        let t2 = t.triangle (2 * v) (2 * v + 1) (opposite l) plus_in minus_in ol in
        let c = turned_minus l hl in
        let e = even_minus in
        omega (arith, ints)

    other_other : (k l : ℕ) → k < 2 * n → l < 2 * n → k / 2 ≢ v → l / 2 ≢ v → (neg_ℤ (side_value x k) -ℤ m k (2 * v + 1)) ≤ℤ (side_value x l +ℤ m l (2 * v))
    other_other k l hk hl h j =
        let ok = opposite-lt n k hk in
        let f = fits l (opposite k) hl ok j (other_opposite k h) in
        let s = side_value-opposite x k in
        let t1 = t.triangle l (2 * v) (opposite k) hl plus_in ok in
        let c = turned_plus k hk in
        omega (arith, ints)

    low_high : (k l : ℕ) → k < 2 * n → l < 2 * n → lower m x v k ≤ℤ upper m x v l
    low_high k l hk hl = elim (own_or v k) [
      | inl e ↦ elim (own_or v l) [
        | inl f ↦ (let a = lower-own m x v k e in let b = upper-own m x v l f in let c = own_room in omega (arith, ints))
        | inr f ↦ (let a = lower-own m x v k e in let b = upper-other m x v l f in let c = own_other l hl f in omega (arith, ints))
      ]
      | inr e ↦ elim (own_or v l) [
        | inl f ↦ (let a = lower-other m x v k e in let b = upper-own m x v l f in let c = other_own k hk e in omega (arith, ints))
        | inr f ↦ (let a = lower-other m x v k e in let b = upper-other m x v l f in let c = other_other k l hk hl e f in omega (arith, ints))
      ]
    ]

    -- ---- a number between all ends makes a point

    module _ (z : ℤ) (above : (k : ℕ) → k < 2 * n → lower m x v k ≤ℤ z) (below : (k : ℕ) → k < 2 * n → z ≤ℤ upper m x v k) where
      y : ℕ → ℤ
      y = moved x v z

      at_plus : side_value (moved x v z) (2 * v) ≡ z
      at_plus = side_plus (moved x v z) v ∙ moved-here x v z

      at_minus : side_value (moved x v z) (2 * v + 1) ≡ neg_ℤ z
      at_minus = side_minus (moved x v z) v ∙ ap neg_ℤ (moved-here x v z)

      at_other : (k : ℕ) → k / 2 ≢ v → side_value (moved x v z) k ≡ side_value x k
      at_other k h = side_other (moved x v z) x k (moved-there x v z (k / 2) h)

      to_plus : (k : ℕ) → k < 2 * n → k / 2 ≢ v → (side_value (moved x v z) (2 * v) -ℤ side_value (moved x v z) k) ≤ℤ m k (2 * v)
      to_plus k hk h = let a = at_plus in let b = at_other k h in let c = below k hk in let e = upper-other m x v k h in omega (arith, ints)

      to_minus : (k : ℕ) → k < 2 * n → k / 2 ≢ v → (side_value (moved x v z) (2 * v + 1) -ℤ side_value (moved x v z) k) ≤ℤ m k (2 * v + 1)
      to_minus k hk h = let a = at_minus in let b = at_other k h in let c = above k hk in let e = lower-other m x v k h in omega (arith, ints)

      from_plus : (l : ℕ) → l < 2 * n → l / 2 ≢ v → (side_value (moved x v z) l -ℤ side_value (moved x v z) (2 * v)) ≤ℤ m (2 * v) l
      from_plus l hl h =
          let a = to_minus (opposite l) (opposite-lt n l hl) (other_opposite l h) in
          let c = turned_plus (opposite l) (opposite-lt n l hl) in
          let f = ap (m (2 * v)) (opposite-opposite l) in
          let p = at_plus in
          let q = at_minus in
          let s = side_value-opposite (moved x v z) l in
          omega (arith, ints)

      from_minus : (l : ℕ) → l < 2 * n → l / 2 ≢ v → (side_value (moved x v z) l -ℤ side_value (moved x v z) (2 * v + 1)) ≤ℤ m (2 * v + 1) l
      from_minus l hl h =
          let a = to_plus (opposite l) (opposite-lt n l hl) (other_opposite l h) in
          let c = turned_minus (opposite l) (opposite-lt n l hl) in
          let f = ap (m (2 * v + 1)) (opposite-opposite l) in
          let p = at_plus in
          let q = at_minus in
          let s = side_value-opposite (moved x v z) l in
          omega (arith, ints)

      between_others : (k l : ℕ) → k < 2 * n → l < 2 * n → k / 2 ≢ v → l / 2 ≢ v → (side_value (moved x v z) l -ℤ side_value (moved x v z) k) ≤ℤ m k l
      between_others k l hk hl h j = let a = fits k l hk hl h j in let b = at_other k h in let c = at_other l j in omega (arith, ints)

      plus_minus : (side_value (moved x v z) (2 * v + 1) -ℤ side_value (moved x v z) (2 * v)) ≤ℤ m (2 * v) (2 * v + 1)
      plus_minus = let a = at_plus in let b = at_minus in let c = above (2 * v) plus_in in let e = lower-own m x v (2 * v) (omega arith) in let f = even_minus in omega (arith, ints)

      minus_plus : (side_value (moved x v z) (2 * v) -ℤ side_value (moved x v z) (2 * v + 1)) ≤ℤ m (2 * v + 1) (2 * v)
      minus_plus = let a = at_plus in let b = at_minus in let c = below (2 * v) plus_in in let e = upper-own m x v (2 * v) (omega arith) in let f = even_plus in omega (arith, ints)

      same_side : (k : ℕ) → k < 2 * n → (side_value (moved x v z) k -ℤ side_value (moved x v z) k) ≤ℤ m k k
      same_side k hk = let s = t.same k hk in omega (arith, ints)

      meets_at : (k l : ℕ) → k < 2 * n → l < 2 * n → (side_value (moved x v z) l -ℤ side_value (moved x v z) k) ≤ℤ m k l
      meets_at k l hk hl = elim (which v k) [
        | plus e ↦ subst (λ i. (side_value (moved x v z) l -ℤ side_value (moved x v z) i) ≤ℤ m i l) (sym e) (elim (which v l) [
          | plus f ↦ subst (λ j. (side_value (moved x v z) j -ℤ side_value (moved x v z) (2 * v)) ≤ℤ m (2 * v) j) (sym f) (same_side (2 * v) plus_in)
          | minus f ↦ subst (λ j. (side_value (moved x v z) j -ℤ side_value (moved x v z) (2 * v)) ≤ℤ m (2 * v) j) (sym f) plus_minus
          | other f ↦ from_plus l hl f
        ])
        | minus e ↦ subst (λ i. (side_value (moved x v z) l -ℤ side_value (moved x v z) i) ≤ℤ m i l) (sym e) (elim (which v l) [
          | plus f ↦ subst (λ j. (side_value (moved x v z) j -ℤ side_value (moved x v z) (2 * v + 1)) ≤ℤ m (2 * v + 1) j) (sym f) minus_plus
          | minus f ↦ subst (λ j. (side_value (moved x v z) j -ℤ side_value (moved x v z) (2 * v + 1)) ≤ℤ m (2 * v + 1) j) (sym f) (same_side (2 * v + 1) minus_in)
          | other f ↦ from_minus l hl f
        ])
        | other e ↦ elim (which v l) [
          | plus f ↦ subst (λ j. (side_value (moved x v z) j -ℤ side_value (moved x v z) k) ≤ℤ m k j) (sym f) (to_plus k hk e)
          | minus f ↦ subst (λ j. (side_value (moved x v z) j -ℤ side_value (moved x v z) k) ≤ℤ m k j) (sym f) (to_minus k hk e)
          | other f ↦ between_others k l hk hl e f
        ]
      ]

    -- ---- there is such a number between two more ends that admit all

    pub record Extended (l h : ℤ) : Type 0 where
      pub z : ℤ
      pub above : l ≤ℤ z
      pub below : z ≤ℤ h
      pub meets : Meets n m (moved x v z)

    pub extended : (l h : ℤ) → l ≤ℤ h → ((k : ℕ) → k < 2 * n → lower m x v k ≤ℤ h) → ((k : ℕ) → k < 2 * n → l ≤ℤ upper m x v k) → Extended l h
    extended l h room lows highs =
        let b = between (2 * n) (lower m x v) (upper m x v) l h room lows highs low_high in
        record { z = b.z; above = b.above; below = b.below; meets = record { within = λ k l hk hl. meets_at b.z b.all_above b.all_below k l hk hl } }

    pub extended_free : Extended (lower m x v (2 * v)) (upper m x v (2 * v))
    extended_free = extended (lower m x v (2 * v)) (upper m x v (2 * v)) (low_high (2 * v) (2 * v) plus_in plus_in) (λ k hk. low_high k (2 * v) hk plus_in) (λ k hk. low_high (2 * v) k plus_in hk)
