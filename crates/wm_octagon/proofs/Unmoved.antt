-- One more bound changes nothing beside the columns that the code found.
use Rattle.std.proofs.Common.{◌≡◌, ◌∙◌, ℕ, ◌-◌, ◌*◌, ◌<◌, ◌≤◌, ℤ, ◌+ℤ◌, ◌≤ℤ◌, List, get_or, subst, arith}
use Rattle.std.proofs.lemmas.Int.{ints, clamps}
use Rattle.std.specs.Int.{int_min}
use Rattle.wm_octagon.specs.Layout.{opposite, row_len, bound, IsBeside}
use Rattle.wm_octagon.specs.Closing.{top, through, with_bound, joined, closed}
use Rattle.wm_octagon.specs.HalfTable.{IsSmall}
use Rattle.wm_octagon.specs.Medium.{IsMedium, Filled}
use Rattle.wm_octagon.specs.Ways.{at, AreRows, AreWays, least_way, BeginIn, IsUnmoved}
use Rattle.wm_octagon.specs.Points.{IsTight}
use Rattle.wm_octagon.proofs.Tables.{IsTable, opposite-lt}
use Rattle.wm_octagon.proofs.Tight.{bound_here, column-lt, table_of}
use Rattle.wm_octagon.proofs.Closings.{closing-value}

-- the lesser of a number and a greater one
min-left : (x y : ℤ) → x ≤ℤ y → int_min x y ≡ x
min-left x y h = omega (arith, ints, clamps)

with_bound-unmoved : (n : ℕ) (m : ℕ → ℕ → ℤ) (i j : ℕ) (c : ℤ) (k l : ℕ) → IsTable n m → i < 2 * n → j < 2 * n → k < 2 * n → l < 2 * n
    → m k j ≤ℤ through (m (opposite i)) (m j) (c +ℤ c +ℤ m (opposite i) i) c k
    → m k (opposite i) ≤ℤ through (m j) (m (opposite i)) (c +ℤ c +ℤ m j (opposite j)) c k
    → with_bound m i j c k l ≡ m k l
unfolding with_bound
with_bound-unmoved n m i j c k l t hi hj hk hl a b =
    let oi = opposite-lt n i hi in
    let t1 = t.triangle k j l hk hj hl in
    let t2 = t.triangle k (opposite i) l hk oi hl in
    let x = through (m (opposite i)) (m j) (c +ℤ c +ℤ m (opposite i) i) c k +ℤ m j l in
    let y = through (m j) (m (opposite i)) (c +ℤ c +ℤ m j (opposite j)) c k +ℤ m (opposite i) l in
    let hx : m k l ≤ℤ (through (m (opposite i)) (m j) (c +ℤ c +ℤ m (opposite i) i) c k +ℤ m j l) = omega (arith, ints) in
    let hy : m k l ≤ℤ (through (m j) (m (opposite i)) (c +ℤ c +ℤ m j (opposite j)) c k +ℤ m (opposite i) l) = omega (arith, ints) in
    let least : m k l ≤ℤ int_min (through (m (opposite i)) (m j) (c +ℤ c +ℤ m (opposite i) i) c k +ℤ m j l) (through (m j) (m (opposite i)) (c +ℤ c +ℤ m j (opposite j)) c k +ℤ m (opposite i) l) = omega (arith, ints, clamps) in
    min-left _ _ least

closed-unmoved : (n : ℕ) (m : ℕ → ℕ → ℤ) (i j : ℕ) (c : ℤ) (k l : ℕ) → IsTable n m → i < 2 * n → j < 2 * n → k < 2 * n → l < 2 * n
    → m k j ≤ℤ through (m (opposite i)) (m j) (c +ℤ c +ℤ m (opposite i) i) c k
    → m k (opposite i) ≤ℤ through (m j) (m (opposite i)) (c +ℤ c +ℤ m j (opposite j)) c k
    → top m (opposite k) ≤ℤ top (with_bound m i j c) (opposite k) → top m l ≤ℤ top (with_bound m i j c) l
    → closed m i j c k l ≡ m k l
unfolding closed joined
closed-unmoved n m i j c k l t hi hj hk hl a b p q =
    let e = with_bound-unmoved n m i j c k l t hi hj hk hl a b in
    let w = t.join k l hk hl in
    let least : with_bound m i j c k l ≤ℤ (top (with_bound m i j c) (opposite k) +ℤ top (with_bound m i j c) l) = omega (arith, ints) in
    min-left _ _ least ∙ e

pub closing-beside : (n : ℕ) (xs : List ℤ) (i j : ℕ) (c : ℤ) (to_j from_j to_i from_i tops olds : List ℤ) (lowered : ℕ) (begins : List ℕ) → IsTight n xs → i < 2 * n → j < 2 * n
    → AreRows n xs i j from_j from_i → AreWays n xs i j c to_j to_i → Filled IsMedium (top (with_bound (bound xs) i j c)) (2 * n) tops → Filled IsSmall (top (bound xs)) (2 * n) olds
    → lowered ≤ 2 * n → ((k : ℕ) → k < lowered → at olds k ≤ℤ at tops k) → BeginIn begins
    → ((k l : ℕ) → k < 2 * n → l < get_or begins k 0 → IsUnmoved (bound xs) j (opposite i) (at to_j k) (at to_i k) lowered k l)
    → IsBeside (2 * n) (λ k l b. int_min (least_way to_j from_j to_i from_i b k l) (at tops (opposite k) +ℤ at tops l)) (λ k. get_or begins k 0) (λ k. row_len k - get_or begins k 0) xs
closing-beside n xs i j c to_j from_j to_i from_i tops olds lowered begins tight hi hj r w t o few kept inside un = record {
  inside = λ k h. let b = inside k in omega arith;
  before = λ k l hk hl.
      let b = inside k in
      let here : l < row_len k = omega arith in
      let l_in = column-lt n k l hk here in
      let u = un k l hk hl in
      let ok = opposite-lt n k hk in
      let a1 = u.into_j in
      let a2 = u.into_i in
      let w1 = w.j_ways.done k hk in
      let w2 = w.i_ways.done k hk in
      let k1 = kept (opposite k) u.back_in in
      let k2 = kept l u.column_in in
      let o1 = o.done (opposite k) ok in
      let o2 = o.done l l_in in
      let t1 = t.done (opposite k) ok in
      let t2 = t.done l l_in in
      closing-value n xs i j c to_j from_j to_i from_i tops r w t k l hk here
      ∙ closed-unmoved n (bound xs) i j c k l (table_of n xs tight) hi hj hk l_in
      (subst (λ z. bound xs k j ≤ℤ z) w1 a1) (subst (λ z. bound xs k (opposite i) ≤ℤ z) w2 a2)
      (subst (λ z. z ≤ℤ top (with_bound (bound xs) i j c) (opposite k)) o1 (subst (λ z. at olds (opposite k) ≤ℤ z) t1 k1))
      (subst (λ z. z ≤ℤ top (with_bound (bound xs) i j c) l) o2 (subst (λ z. at olds l ≤ℤ z) t2 k2))
      ∙ bound_here xs k l here;
  after = λ k l hk a here. let b = inside k in absurd (omega arith);
}
