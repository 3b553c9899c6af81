-- In a table in which no bound follows more tightly from others each bound is attained by an integer point.
use Rattle.std.proofs.Common.{◌≡◌, ◌⊎◌, inl, inr, ℕ, zero, suc, ◌+◌, ◌*◌, ◌/◌, ◌%◌, ◌<◌, ◌≤◌, ℤ, pos, ◌+ℤ◌, ◌-ℤ◌, ◌≤ℤ◌, neg_ℤ, refl, sym, ◌∙◌, ap, subst, arith}
use Rattle.std.proofs.lemmas.Int.{ints}
use Rattle.std.proofs.lemmas.Bool.{cases_lt}
use Rattle.wm_octagon.specs.Layout.{opposite}
use Rattle.wm_octagon.specs.Closing.{top, closed}
use Rattle.wm_octagon.specs.Points.{side_value}
use Rattle.wm_octagon.proofs.Tables.{IsTable, opposite-lt, closed-table, closed_le, closed_new}

-- ---- the values of sides

pub side_value-even : (x : ℕ → ℤ) (k : ℕ) → k % 2 ≡ 0 → side_value x k ≡ x (k / 2)
unfolding side_value
side_value-even x k e = rw e refl

pub side_value-odd : (x : ℕ → ℤ) (k : ℕ) → k % 2 ≡ 1 → side_value x k ≡ neg_ℤ (x (k / 2))
unfolding side_value
side_value-odd x k e = rw e refl

even_or_odd : (k : ℕ) → (k % 2 ≡ 0) ⊎ (k % 2 ≡ 1)
even_or_odd k = grind arith

pub side_value-opposite : (x : ℕ → ℤ) (k : ℕ) → side_value x (opposite k) ≡ neg_ℤ (side_value x k)
side_value-opposite x k = elim (even_or_odd k) [
  | inl e ↦ (
      let a = side_value-even x k e in
      let b = side_value-odd x (opposite k) (omega arith) in
      let h : opposite k / 2 ≡ k / 2 = omega arith in
      let f = ap x h in
      omega (arith, ints))
  | inr e ↦ (
      let a = side_value-odd x k e in
      let b = side_value-even x (opposite k) (omega arith) in
      let h : opposite k / 2 ≡ k / 2 = omega arith in
      let f = ap x h in
      omega (arith, ints))
]

-- ---- points of tables

pub record Meets (n : ℕ) (m : ℕ → ℕ → ℤ) (x : ℕ → ℤ) : Type 0 where
  pub within : (k l : ℕ) → k < 2 * n → l < 2 * n → (side_value x l -ℤ side_value x k) ≤ℤ m k l

-- the table in which the first variables have the greatest value that each can have after those before it
fixed : (m : ℕ → ℕ → ℤ) → ℕ → ℕ → ℕ → ℤ
fixed m zero = m
fixed m (suc v) = closed (fixed m v) (2 * v) (2 * v + 1) (neg_ℤ (fixed m v (2 * v + 1) (2 * v)))

record IsFixed (n : ℕ) (m : ℕ → ℕ → ℤ) (v : ℕ) : Type 0 where
  table : IsTable n (fixed m v)
  below : (k l : ℕ) → fixed m v k l ≤ℤ m k l
  one_value : (u : ℕ) → u < v → (fixed m v (2 * u) (2 * u + 1) +ℤ fixed m v (2 * u + 1) (2 * u)) ≤ℤ pos 0

is_fixed : (n : ℕ) (m : ℕ → ℕ → ℤ) (v : ℕ) → IsTable n m → v ≤ n → IsFixed n m v
unfolding fixed
is_fixed n m zero t h = record {
  table = t;
  below = λ k l. omega (arith, ints);
  one_value = λ u lt. absurd (omega arith);
}
is_fixed n m (suc v) t h =
    let f = is_fixed n m v t (omega arith) in
    let i_in : 2 * v < 2 * n = omega arith in
    let j_in : 2 * v + 1 < 2 * n = omega arith in
    let c = neg_ℤ (fixed m v (2 * v + 1) (2 * v)) in
    record {
      table = closed-table n (fixed m v) (2 * v) (2 * v + 1) c f.table i_in j_in (omega (arith, ints));
      below = λ k l. let a = closed_le (fixed m v) (2 * v) (2 * v + 1) c k l in let b = f.below k l in omega (arith, ints);
      one_value = λ u lt. elim (cases_lt u v) [
        | inl before ↦ (
            let a = closed_le (fixed m v) (2 * v) (2 * v + 1) c (2 * u) (2 * u + 1) in
            let b = closed_le (fixed m v) (2 * v) (2 * v + 1) c (2 * u + 1) (2 * u) in
            let d = f.one_value u before in
            omega (arith, ints))
        | inr at ↦ (
            let e : v ≡ u = omega arith in
            let a = closed_new n (fixed m v) (2 * v) (2 * v + 1) c f.table i_in j_in in
            let b = closed_le (fixed m v) (2 * v) (2 * v + 1) c (2 * v + 1) (2 * v) in
            subst (λ w. (fixed m (suc v) (2 * w) (2 * w + 1) +ℤ fixed m (suc v) (2 * w + 1) (2 * w)) ≤ℤ pos 0) e (omega (arith, ints)))
      ];
    }

-- the value of each variable in a table that leaves each but one
corner : (ℕ → ℕ → ℤ) → ℕ → ℤ
corner m v = top m (2 * v)

record OneValued (n : ℕ) (m : ℕ → ℕ → ℤ) : Type 0 where
  table : IsTable n m
  one_value : (u : ℕ) → u < n → (m (2 * u) (2 * u + 1) +ℤ m (2 * u + 1) (2 * u)) ≤ℤ pos 0

-- there the greatest values of a side and its opposite are each other's negatives
top-opposite : (n : ℕ) (m : ℕ → ℕ → ℤ) → OneValued n m → (u : ℕ) → u < n → top m (2 * u + 1) ≡ neg_ℤ (top m (2 * u))
top-opposite n m o u h =
    let t = o.table in
    let k_in : 2 * u < 2 * n = omega arith in
    let l_in : 2 * u + 1 < 2 * n = omega arith in
    let a = t.even (2 * u) k_in in
    let b = t.even (2 * u + 1) l_in in
    let p : opposite (2 * u) ≡ 2 * u + 1 = omega arith in
    let q : opposite (2 * u + 1) ≡ 2 * u = omega arith in
    let a' = ap (λ i. m i (2 * u)) p in
    let b' = ap (λ i. m i (2 * u + 1)) q in
    let s = t.same (2 * u) k_in in
    let tri = t.triangle (2 * u) (2 * u + 1) (2 * u) k_in l_in k_in in
    let one = o.one_value u h in
    omega (arith, ints)

side_value-corner : (n : ℕ) (m : ℕ → ℕ → ℤ) → OneValued n m → (k : ℕ) → k < 2 * n → side_value (corner m) k ≡ top m k
unfolding corner
side_value-corner n m o k h = elim (even_or_odd k) [
  | inl e ↦ side_value-even (corner m) k e ∙ ap (top m) (omega arith)
  | inr e ↦ (
      let p : 2 * (k / 2) + 1 ≡ k = omega arith in
      side_value-odd (corner m) k e ∙ sym (top-opposite n m o (k / 2) (omega arith)) ∙ ap (top m) p)
]

corner-meets : (n : ℕ) (m : ℕ → ℕ → ℤ) → OneValued n m → Meets n m (corner m)
corner-meets n m o = record {
  within = λ k l hk hl.
      let t = o.table in
      let ok = opposite-lt n k hk in
      let ol = opposite-lt n l hl in
      let a = side_value-corner n m o k hk in
      let b = side_value-corner n m o l hl in
      let ek = t.even k hk in
      let el = t.even l hl in
      let mirror : m k l ≡ m (opposite l) (opposite k) = t.coherent k l hk hl in
      let t1 = t.triangle (opposite l) (opposite k) l ol ok hl in
      let t2 = t.triangle (opposite k) k l ok hk hl in
      omega (arith, ints);
}

-- each table has a point
pub point_of : (n : ℕ) (m : ℕ → ℕ → ℤ) → IsTable n m → (x : ℕ → ℤ) × Meets n m x
point_of n m t =
    let f = is_fixed n m n t (omega arith) in
    let o : OneValued n (fixed m n) = record { table = f.table; one_value = f.one_value } in
    let p = corner-meets n (fixed m n) o in
    (corner (fixed m n), record { within = λ k l hk hl. let a = p.within k l hk hl in let b = f.below k l in omega (arith, ints) })

pub record Attained (n : ℕ) (m : ℕ → ℕ → ℤ) (k l : ℕ) : Type 0 where
  pub x : ℕ → ℤ
  pub meets : Meets n m x
  pub gives : side_value x l -ℤ side_value x k ≡ m k l

-- the central theorem: each bound of a table is attained
pub attained : (n : ℕ) (m : ℕ → ℕ → ℤ) (k l : ℕ) → IsTable n m → k < 2 * n → l < 2 * n → Attained n m k l
attained n m k l t hk hl =
    let c = neg_ℤ (m k l) in
    let t' = closed-table n m l k c t hl hk (omega (arith, ints)) in
    let p = point_of n (closed m l k c) t' in
    let w = p.1 in
    record {
      x = p.0;
      meets = record { within = λ a b ha hb. let u = w.within a b ha hb in let v = closed_le m l k c a b in omega (arith, ints) };
      gives =
          let u = w.within k l hk hl in
          let v = closed_le m l k c k l in
          let u' = w.within l k hl hk in
          let v' = closed_new n m l k c t hl hk in
          omega (arith, ints);
    }
