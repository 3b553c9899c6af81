-- What one more bound leaves is the least octagon of the points that meet it.
use Rattle.std.proofs.Common.{ℕ, ◌*◌, ◌<◌, ℤ, pos, ◌+ℤ◌, ◌-ℤ◌, ◌≤ℤ◌, ◌<ℤ◌, List, sym, ◌∙◌, arith}
use Rattle.std.proofs.lemmas.Int.{ints, clamps}
use Rattle.std.specs.Int.{int_min}
use Rattle.wm_octagon.specs.Layout.{opposite, bound, table}
use Rattle.wm_octagon.specs.Closing.{top, through, with_bound, joined, closed}
use Rattle.wm_octagon.specs.Points.{side_value, IsPoint, IsTight, LeastOctagon, WithBound}
use Rattle.wm_octagon.proofs.Rows.{entry-table}
use Rattle.wm_octagon.proofs.Tables.{opposite-lt, le_half, closed-table, closed_le, closed_new}
use Rattle.wm_octagon.proofs.Attained.{Meets, attained, point_of, side_value-opposite}
use Rattle.wm_octagon.proofs.Tight.{table_of, meets_of, point_from, column-lt, bound-table}

-- what holds of two numbers holds of the lesser
le_least : (z x y : ℤ) → z ≤ℤ x → z ≤ℤ y → z ≤ℤ int_min x y
le_least z x y h k = omega (arith, ints, clamps)

-- a point that meets the table and the new bound meets each bound by a way that ends with the new one
record OnWay (m : ℕ → ℕ → ℤ) (i j : ℕ) (c : ℤ) (x : ℕ → ℤ) (k : ℕ) : Type 0 where
  to_j : (side_value x j -ℤ side_value x k) ≤ℤ through (m (opposite i)) (m j) (c +ℤ c +ℤ m (opposite i) i) c k
  to_i : (side_value x (opposite i) -ℤ side_value x k) ≤ℤ through (m j) (m (opposite i)) (c +ℤ c +ℤ m j (opposite j)) c k

on_way : (n : ℕ) (m : ℕ → ℕ → ℤ) (i j : ℕ) (c : ℤ) (x : ℕ → ℤ) → Meets n m x → i < 2 * n → j < 2 * n → (side_value x j -ℤ side_value x i) ≤ℤ c → (k : ℕ) → k < 2 * n → OnWay m i j c x k
unfolding through
on_way n m i j c x w hi hj b k hk =
    let oi = opposite-lt n i hi in
    let oj = opposite-lt n j hj in
    let ok = opposite-lt n k hk in
    let si = side_value-opposite x i in
    let sj = side_value-opposite x j in
    let sk = side_value-opposite x k in
    let a1 = w.within (opposite i) (opposite k) oi ok in
    let a2 = w.within j (opposite k) hj ok in
    let a3 = w.within (opposite i) i oi hi in
    let a4 = w.within j (opposite j) hj oj in
    record {
      to_j = le_least (side_value x j -ℤ side_value x k) (m (opposite i) (opposite k) +ℤ c) (m j (opposite k) +ℤ (c +ℤ c +ℤ m (opposite i) i)) (omega (arith, ints)) (omega (arith, ints));
      to_i = le_least (side_value x (opposite i) -ℤ side_value x k) (m j (opposite k) +ℤ c) (m (opposite i) (opposite k) +ℤ (c +ℤ c +ℤ m j (opposite j))) (omega (arith, ints)) (omega (arith, ints));
    }

with_bound-meets : (n : ℕ) (m : ℕ → ℕ → ℤ) (i j : ℕ) (c : ℤ) (x : ℕ → ℤ) → Meets n m x → i < 2 * n → j < 2 * n → (side_value x j -ℤ side_value x i) ≤ℤ c → Meets n (with_bound m i j c) x
unfolding with_bound
with_bound-meets n m i j c x w hi hj b = record {
  within = λ k l hk hl.
      let o = on_way n m i j c x w hi hj b k hk in
      let o1 = o.to_j in
      let o2 = o.to_i in
      let a1 = w.within k l hk hl in
      let a2 = w.within j l hj hl in
      let a3 = w.within (opposite i) l (opposite-lt n i hi) hl in
      let by_j : (side_value x l -ℤ side_value x k) ≤ℤ (through (m (opposite i)) (m j) (c +ℤ c +ℤ m (opposite i) i) c k +ℤ m j l) = omega (arith, ints) in
      let by_i : (side_value x l -ℤ side_value x k) ≤ℤ (through (m j) (m (opposite i)) (c +ℤ c +ℤ m j (opposite j)) c k +ℤ m (opposite i) l) = omega (arith, ints) in
      le_least _ _ _ a1 (le_least _ _ _ by_j by_i);
}

-- a point's value of a side is at most what its own bound leaves
pub value_le_top : (n : ℕ) (m : ℕ → ℕ → ℤ) (x : ℕ → ℤ) → Meets n m x → (k : ℕ) → k < 2 * n → side_value x k ≤ℤ top m k
unfolding top
value_le_top n m x w k hk =
    let a = w.within (opposite k) k (opposite-lt n k hk) hk in
    let s = side_value-opposite x k in
    let h = le_half (m (opposite k) k) in
    omega (arith, ints)

joined-meets : (n : ℕ) (m : ℕ → ℕ → ℤ) (x : ℕ → ℤ) → Meets n m x → Meets n (joined m) x
unfolding joined
joined-meets n m x w = record {
  within = λ k l hk hl.
      let a = w.within k l hk hl in
      let p = value_le_top n m x w (opposite k) (opposite-lt n k hk) in
      let q = value_le_top n m x w l hl in
      let s = side_value-opposite x k in
      let alone : (side_value x l -ℤ side_value x k) ≤ℤ (top m (opposite k) +ℤ top m l) = omega (arith, ints) in
      le_least _ _ _ a alone;
}

pub closed-meets : (n : ℕ) (m : ℕ → ℕ → ℤ) (i j : ℕ) (c : ℤ) (x : ℕ → ℤ) → Meets n m x → i < 2 * n → j < 2 * n → (side_value x j -ℤ side_value x i) ≤ℤ c → Meets n (closed m i j c) x
unfolding closed
closed-meets n m i j c x w hi hj b = joined-meets n (with_bound m i j c) x (with_bound-meets n m i j c x w hi hj b)

-- a list is tight where it bounds the least octagon of some points
pub tight_of_least : (n : ℕ) (P : (ℕ → ℤ) → Type 0) (xs : List ℤ) → LeastOctagon n P xs → IsTight n xs
tight_of_least n P xs t = record {
  point = t.some;
  is_point = t.holds t.some t.some_is;
  attained = λ k l hk hl. let a = t.attained k l hk hl in record { x = a.x; is = t.holds a.x a.is; gives = a.gives };
}

-- one more bound that does not contradict the list
pub closed-least : (n : ℕ) (xs : List ℤ) (i j : ℕ) (c : ℤ) → IsTight n xs → i < 2 * n → j < 2 * n → pos 0 ≤ℤ (c +ℤ bound xs j i) → LeastOctagon n (WithBound n xs i j c) (table (2 * n) (closed (bound xs) i j c))
closed-least n xs i j c t hi hj room =
    let m = table_of n xs t in
    let m' = closed-table n (bound xs) i j c m hi hj room in
    let back = λ (x : ℕ → ℤ) (w : Meets n (closed (bound xs) i j c) x).
    let is : WithBound n xs i j c x = record {
      point = point_from n xs x (record { within = λ k l hk hl. let a = w.within k l hk hl in let b = closed_le (bound xs) i j c k l in omega (arith, ints) });
      bounded = let a = w.within i j hi hj in let b = closed_new n (bound xs) i j c m hi hj in omega (arith, ints);
    } in is in
    let p = point_of n (closed (bound xs) i j c) m' in
    record {
      some = p.0;
      some_is = back p.0 p.1;
      holds = λ x b. record {
        meets = λ k l hk hl.
            let w = closed-meets n (bound xs) i j c x (meets_of n xs x b.point) hi hj b.bounded in
            let a = w.within k l hk (column-lt n k l hk hl) in
            let e = entry-table (2 * n) (closed (bound xs) i j c) k l hk hl in
            omega (arith, ints);
      };
      attained = λ k l hk hl.
          let a = attained n (closed (bound xs) i j c) k l m' hk (column-lt n k l hk hl) in
          record { x = a.x; is = back a.x a.meets; gives = a.gives ∙ sym (entry-table (2 * n) (closed (bound xs) i j c) k l hk hl) };
    }

-- a bound that is known already
pub known-least : (n : ℕ) (xs : List ℤ) (i j : ℕ) (c : ℤ) → IsTight n xs → i < 2 * n → j < 2 * n → bound xs i j ≤ℤ c → LeastOctagon n (WithBound n xs i j c) xs
known-least n xs i j c t hi hj known =
    let back = λ (x : ℕ → ℤ) (p : IsPoint n xs x).
    let is : WithBound n xs i j c x = record {
      point = p;
      bounded = let a = (meets_of n xs x p).within i j hi hj in omega (arith, ints);
    } in is in
    record {
      some = t.point;
      some_is = back t.point t.is_point;
      holds = λ x b. b.point;
      attained = λ k l hk hl. let a = t.attained k l hk hl in record { x = a.x; is = back a.x a.is; gives = a.gives };
    }

-- a bound that contradicts the list leaves no point
pub contradicts : (n : ℕ) (xs : List ℤ) (i j : ℕ) (c : ℤ) → i < 2 * n → j < 2 * n → (c +ℤ bound xs j i) <ℤ pos 0 → (x : ℕ → ℤ) → WithBound n xs i j c x → ⊥
contradicts n xs i j c hi hj h x b =
    let a = (meets_of n xs x b.point).within j i hj hi in
    let d = b.bounded in
    absurd (omega (arith, ints))

-- the points of the list with one more bound are those that meet it
pub closed-points : (n : ℕ) (xs : List ℤ) (i j : ℕ) (c : ℤ) → IsTight n xs → i < 2 * n → j < 2 * n → pos 0 ≤ℤ (c +ℤ bound xs j i) → (x : ℕ → ℤ) → IsPoint n (table (2 * n) (closed (bound xs) i j c)) x → WithBound n xs i j c x
closed-points n xs i j c t hi hj room x p =
    let m = table_of n xs t in
    let m' = closed-table n (bound xs) i j c m hi hj room in
    let w = meets_of n (table (2 * n) (closed (bound xs) i j c)) x p in
    let at = bound-table n (closed (bound xs) i j c) (λ k l hk hl. m'.coherent k l hk hl) in
    record {
      point = point_from n xs x (record { within = λ k l hk hl. let a = w.within k l hk hl in let e = at k l hk hl in let b = closed_le (bound xs) i j c k l in omega (arith, ints) });
      bounded = let a = w.within i j hi hj in let e = at i j hi hj in let b = closed_new n (bound xs) i j c m hi hj in omega (arith, ints);
    }

pub known-points : (n : ℕ) (xs : List ℤ) (i j : ℕ) (c : ℤ) → i < 2 * n → j < 2 * n → bound xs i j ≤ℤ c → (x : ℕ → ℤ) → (IsPoint n xs x → WithBound n xs i j c x) × (WithBound n xs i j c x → IsPoint n xs x)
known-points n xs i j c hi hj known x =
    (λ p. record { point = p; bounded = let a = (meets_of n xs x p).within i j hi hj in omega (arith, ints) }, λ w. w.point)
