-- The half table of some ranges is the least octagon of the points with numbers of these ranges.
use Rattle.std.proofs.Common.{◌≡◌, inl, inr, ℕ, zero, suc, ◌+◌, ◌*◌, ◌/◌, ◌%◌, ◌<◌, ◌≢◌, ℤ, pos, negsuc, ◌+ℤ◌, ◌≤ℤ◌, neg_ℤ, List, [], ◌∷◌, length, refl, sym, ◌∙◌, ap, subst, arith, nat_eq, true, false}
use Rattle.std.proofs.lemmas.Int.{ints}
use Rattle.std.proofs.lemmas.Bool.{cases_eq}
use Rattle.std.specs.Prelude.{All}
use Rattle.wm_interval.specs.declared.Interval.{Interval}
use Rattle.wm_numbers.specs.Within.{Within}
use Rattle.wm_octagon.specs.Layout.{opposite, row_len, table}
use Rattle.wm_octagon.specs.HalfTable.{HalfTable, IsSmall}
use Rattle.wm_octagon.specs.Points.{side_value, IsPoint, LeastOctagon}
use Rattle.wm_octagon.specs.Changes.{apart}
use Rattle.wm_octagon.specs.Ranges.{IsNarrow, low_of, high_of, range_top, InRanges, box_table}
use Rattle.wm_octagon.proofs.Rows.{entry-table}
use Rattle.wm_octagon.proofs.Tables.{opposite-lt}
use Rattle.wm_octagon.proofs.Attained.{side_value-opposite, side_value-even, side_value-odd}
use Rattle.wm_octagon.specs.Medium.{Filled}
use Rattle.wm_octagon.specs.Ways.{at}
use Rattle.wm_octagon.proofs.Closings.{table-ext}
use Rattle.wm_octagon.proofs.Tight.{column-lt}
use Rattle.wm_octagon.proofs.Moves.{side_plus, side_minus, moved, moved-here, moved-there, even_or_odd}

ordered : (rs : List Interval) (v : ℕ) → v < length rs → low_of rs v ≤ℤ high_of rs v
ordered [] v h = absurd (omega arith)
ordered (r ∷ rs) zero h = r.ordered
ordered (r ∷ rs) (suc v) h = ordered rs v (omega arith)

-- numbers of 32 bits, and their negatives
abbrev pub IsTiny : ℤ → Type 0
IsTiny z = Within (negsuc 2147483647) (pos 2147483648) z

pub narrow_tiny : (rs : List Interval) (v : ℕ) → All IsNarrow rs → IsTiny (low_of rs v) × IsTiny (high_of rs v)
narrow_tiny [] v a = (record { above = omega (arith, ints); below = omega (arith, ints) }, record { above = omega (arith, ints); below = omega (arith, ints) })
narrow_tiny (r ∷ rs) zero a =
    let n : IsNarrow r = a 0 r (omega arith) in
    let l = n.low_fits.above in
    let l' = n.low_fits.below in
    let h = n.high_fits.above in
    let h' = n.high_fits.below in
    (record { above = omega (arith, ints); below = omega (arith, ints) }, record { above = omega (arith, ints); below = omega (arith, ints) })
narrow_tiny (r ∷ rs) (suc v) a = narrow_tiny rs v (λ k d h. a (suc k) d (omega arith))

pub top-even : (rs : List Interval) (k : ℕ) → k % 2 ≡ 0 → range_top rs k ≡ high_of rs (k / 2)
top-even rs k e = rw e refl

pub top-odd : (rs : List Interval) (k : ℕ) → k % 2 ≡ 1 → range_top rs k ≡ neg_ℤ (low_of rs (k / 2))
top-odd rs k e = rw e refl

pub range_top-plus : (rs : List Interval) (v : ℕ) → range_top rs (2 * v) ≡ high_of rs v
range_top-plus rs v = top-even rs (2 * v) (omega arith) ∙ ap (high_of rs) (omega arith)

pub range_top-minus : (rs : List Interval) (v : ℕ) → range_top rs (2 * v + 1) ≡ neg_ℤ (low_of rs v)
range_top-minus rs v = top-odd rs (2 * v + 1) (omega arith) ∙ ap (λ w. neg_ℤ (low_of rs w)) (omega arith)

in_ranges_le : (rs : List Interval) (x : ℕ → ℤ) → InRanges rs x → (k : ℕ) → k < 2 * length rs → side_value x k ≤ℤ range_top rs k
in_ranges_le rs x p k hk =
    let w = p.inside (k / 2) (omega arith) in
    let above = w.above in
    let below = w.below in
    elim (even_or_odd k) [
      | inl e ↦ (let s = side_value-even x k e in let t = top-even rs k e in omega (arith, ints))
      | inr e ↦ (let s = side_value-odd x k e in let t = top-odd rs k e in omega (arith, ints))
    ]

-- the value of the variable of side k at which side k is at its greatest
record Pick (rs : List Interval) (k : ℕ) : Type 0 where
  t : ℤ
  inside : Within (low_of rs (k / 2)) (high_of rs (k / 2)) t
  gives : (x : ℕ → ℤ) → x (k / 2) ≡ t → side_value x k ≡ range_top rs k

pick : (rs : List Interval) (k : ℕ) → k < 2 * length rs → Pick rs k
pick rs k hk =
    let o = ordered rs (k / 2) (omega arith) in
    elim (even_or_odd k) [
      | inl e ↦ record {
        t = high_of rs (k / 2);
        inside = record { above = o; below = omega (arith, ints) };
        gives = λ x h. side_value-even x k e ∙ h ∙ sym (top-even rs k e);
      }
      | inr e ↦ record {
        t = low_of rs (k / 2);
        inside = record { above = omega (arith, ints); below = o };
        gives = λ x h. side_value-odd x k e ∙ ap neg_ℤ h ∙ sym (top-odd rs k e);
      }
    ]

pub low_point : (rs : List Interval) → InRanges rs (low_of rs)
low_point rs = record { inside = λ v h. let o = ordered rs v h in record { above = omega (arith, ints); below = o } }

in_moved : (rs : List Interval) (x : ℕ → ℤ) (v : ℕ) (t : ℤ) → InRanges rs x → Within (low_of rs v) (high_of rs v) t → InRanges rs (moved x v t)
in_moved rs x v t p w = record {
  inside = λ u h. elim (cases_eq u v) [
    | inl e ↦ subst (Within (low_of rs u) (high_of rs u)) (sym (ap (moved x v t) e ∙ moved-here x v t)) (subst (λ z. Within (low_of rs z) (high_of rs z) t) (sym e) w)
    | inr d ↦ subst (Within (low_of rs u) (high_of rs u)) (sym (moved-there x v t u d)) (p.inside u h)
  ];
}

pub apart-same : (tops : ℕ → ℤ) (k l : ℕ) → k ≡ l → apart tops k l ≡ pos 0
apart-same tops k l h = let e : nat_eq k l ≡ true = grind arith in rw e refl

pub apart-other : (tops : ℕ → ℤ) (k l : ℕ) → k ≢ l → apart tops k l ≡ tops (opposite k) +ℤ tops l
apart-other tops k l h = let e : nat_eq k l ≡ false = grind arith in rw e refl

-- a point of the ranges at which two different sides are both at their greatest
pub record Both (rs : List Interval) (k l : ℕ) : Type 0 where
  pub x : ℕ → ℤ
  pub is : InRanges rs x
  pub first : side_value x (opposite k) ≡ range_top rs (opposite k)
  pub second : side_value x l ≡ range_top rs l

pub both : (rs : List Interval) (k l : ℕ) → k < 2 * length rs → l < 2 * length rs → k ≢ l → Both rs k l
both rs k l hk hl d =
    let p = pick rs (opposite k) (opposite-lt (length rs) k hk) in
    let q = pick rs l hl in
    elim (cases_eq (opposite k / 2) (l / 2)) [
      | inl same ↦ (
          let e : opposite k ≡ l = omega arith in
          let x = moved (low_of rs) (l / 2) q.t in
          let s = q.gives x (moved-here (low_of rs) (l / 2) q.t) in
          record {
            x = x;
            is = in_moved rs (low_of rs) (l / 2) q.t (low_point rs) q.inside;
            first = subst (λ z. side_value x z ≡ range_top rs z) (sym e) s;
            second = s;
          })
      | inr other ↦ (
          let y = moved (low_of rs) (opposite k / 2) p.t in
          let x = moved y (l / 2) q.t in
          record {
            x = x;
            is = in_moved rs y (l / 2) q.t (in_moved rs (low_of rs) (opposite k / 2) p.t (low_point rs) p.inside) q.inside;
            first = p.gives x (moved-there y (l / 2) q.t (opposite k / 2) other ∙ moved-here (low_of rs) (opposite k / 2) p.t);
            second = q.gives x (moved-here y (l / 2) q.t);
          })
    ]

pub box-least : (rs : List Interval) → LeastOctagon (length rs) (InRanges rs) (table (2 * length rs) (apart (range_top rs)))
box-least rs = record {
  some = low_of rs;
  some_is = low_point rs;
  holds = λ x p. record {
    meets = λ k l hk here.
        let e = entry-table (2 * length rs) (apart (range_top rs)) k l hk here in
        elim (cases_eq k l) [
          | inl same ↦ (let z = apart-same (range_top rs) k l same in let y = ap (side_value x) same in omega (arith, ints))
          | inr d ↦ (
              let z = apart-other (range_top rs) k l d in
              let a = in_ranges_le rs x p (opposite k) (opposite-lt (length rs) k hk) in
              let b = in_ranges_le rs x p l (column-lt (length rs) k l hk here) in
              let s = side_value-opposite x k in
              omega (arith, ints))
        ];
  };
  attained = λ k l hk here.
      let e = entry-table (2 * length rs) (apart (range_top rs)) k l hk here in
      elim (cases_eq k l) [
        | inl same ↦ record {
          x = low_of rs;
          is = low_point rs;
          gives = let z = apart-same (range_top rs) k l same in let y = ap (side_value (low_of rs)) same in omega (arith, ints);
        }
        | inr d ↦ (
            let b = both rs k l hk (column-lt (length rs) k l hk here) d in
            record {
              x = b.x;
              is = b.is;
              gives =
                  let z = apart-other (range_top rs) k l d in
                  let s = side_value-opposite b.x k in
                  let g1 = b.first in
                  let g2 = b.second in
                  omega (arith, ints);
            })
      ];
}

-- its points are those of the ranges
pub box-points : (rs : List Interval) (x : ℕ → ℤ) → IsPoint (length rs) (table (2 * length rs) (apart (range_top rs))) x → InRanges rs x
box-points rs x p = record {
  inside = λ v h.
      let up = p.meets (2 * v + 1) (2 * v) (omega arith) (omega arith) in
      let down = p.meets (2 * v) (2 * v + 1) (omega arith) (omega arith) in
      let eu = entry-table (2 * length rs) (apart (range_top rs)) (2 * v + 1) (2 * v) (omega arith) (omega arith) in
      let ed = entry-table (2 * length rs) (apart (range_top rs)) (2 * v) (2 * v + 1) (omega arith) (omega arith) in
      let au = apart-other (range_top rs) (2 * v + 1) (2 * v) (omega arith) in
      let ad = apart-other (range_top rs) (2 * v) (2 * v + 1) (omega arith) in
      let ou : opposite (2 * v + 1) ≡ 2 * v = omega arith in
      let od : opposite (2 * v) ≡ 2 * v + 1 = omega arith in
      let tu = ap (range_top rs) ou in
      let td = ap (range_top rs) od in
      let hp = range_top-plus rs v in
      let hm = range_top-minus rs v in
      let sp = side_plus x v in
      let sm = side_minus x v in
      record { above = omega (arith, ints); below = omega (arith, ints) };
}

-- ---- the list that the code builds

pub tiny-top : (rs : List Interval) (k : ℕ) → All IsNarrow rs → Within (negsuc 2147483647) (pos 2147483648) (range_top rs k)
tiny-top rs k a =
    let n = narrow_tiny rs (k / 2) a in
    let l = n.0.above in
    let l' = n.0.below in
    let h = n.1.above in
    let h' = n.1.below in
    elim (even_or_odd k) [
      | inl e ↦ (let t = top-even rs k e in record { above = omega (arith, ints); below = omega (arith, ints) })
      | inr e ↦ (let t = top-odd rs k e in record { above = omega (arith, ints); below = omega (arith, ints) })
    ]

pub small-top : (rs : List Interval) (k : ℕ) → All IsNarrow rs → IsSmall (range_top rs k)
small-top rs k a = let t = tiny-top rs k a in let p = t.above in let q = t.below in record { above = omega (arith, ints); below = omega (arith, ints) }

pub apart-ext : (f g : ℕ → ℤ) (k l : ℕ) → f (opposite k) ≡ g (opposite k) → f l ≡ g l → apart f k l ≡ apart g k l
apart-ext f g k l p q = elim (cases_eq k l) [
  | inl same ↦ apart-same f k l same ∙ sym (apart-same g k l same)
  | inr d ↦ apart-other f k l d ∙ ap (λ z. z +ℤ f l) p ∙ ap (λ z. g (opposite k) +ℤ z) q ∙ sym (apart-other g k l d)
]

-- the bounds of the arrays are those of the ranges, and small
pub box-value : (n : ℕ) (rs : List Interval) (tops : List ℤ) → n ≡ length rs → Filled IsSmall (range_top rs) (2 * length rs) tops → (k l : ℕ) → k < 2 * n → l < row_len k → apart (at tops) k l ≡ apart (range_top rs) k l
box-value n rs tops e t k l hk hl =
    apart-ext (at tops) (range_top rs) k l
    (t.done (opposite k) (let h = opposite-lt n k hk in omega arith))
    (t.done l (let h = column-lt n k l hk hl in omega arith))

pub box-small : (n : ℕ) (rs : List Interval) (tops : List ℤ) → n ≡ length rs → All IsNarrow rs → Filled IsSmall (range_top rs) (2 * length rs) tops → (k l : ℕ) → k < 2 * n → l < row_len k → IsSmall (apart (at tops) k l)
box-small n rs tops e a t k l hk hl =
    let v = box-value n rs tops e t k l hk hl in
    let p = tiny-top rs (opposite k) a in
    let q = tiny-top rs l a in
    let p1 = p.above in
    let p2 = p.below in
    let q1 = q.above in
    let q2 = q.below in
    elim (cases_eq k l) [
      | inl same ↦ (let z = apart-same (range_top rs) k l same in record { above = omega (arith, ints); below = omega (arith, ints) })
      | inr d ↦ (let z = apart-other (range_top rs) k l d in record { above = omega (arith, ints); below = omega (arith, ints) })
    ]

pub box-list : (n : ℕ) (rs : List Interval) (tops : List ℤ) → n ≡ length rs → Filled IsSmall (range_top rs) (2 * length rs) tops → table (2 * n) (λ k l. apart (at tops) k l) ≡ table (2 * length rs) (apart (range_top rs))
box-list n rs tops e t =
    table-ext (2 * n) (λ k l. apart (at tops) k l) (apart (range_top rs)) (box-value n rs tops e t)
    ∙ ap (λ m. table (2 * m) (apart (range_top rs))) e

pub box-half : (h : HalfTable) (rs : List Interval) (tops : List ℤ) → h.variables ≡ length rs → Filled IsSmall (range_top rs) (2 * length rs) tops
    → record h { bounds = table (2 * h.variables) (λ k l. apart (at tops) k l) } ≡ box_table rs
box-half h rs tops e t =
    let make = λ (n : ℕ) (xs : List ℤ). let r : HalfTable = record { variables = n; bounds = xs } in r in
    ap (λ n. make n (table (2 * h.variables) (λ k l. apart (at tops) k l))) e ∙ ap (make (length rs)) (box-list h.variables rs tops e t)
