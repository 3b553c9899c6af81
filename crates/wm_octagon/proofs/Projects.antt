-- What is left of an octagon where some variables are picked is the least octagon of the points so made.
use Rattle.std.proofs.Common.{◌≡◌, inl, inr, ℕ, ◌+◌, ◌*◌, ◌/◌, ◌%◌, ◌<◌, ◌≤◌, ◌≢◌, ℤ, pos, negsuc, ◌-ℤ◌, ◌≤ℤ◌, neg_ℤ, List, Option, Some, None, length, get_or, refl, sym, ◌∙◌, ap, subst, arith, false}
use Rattle.std.specs.Prelude.{All, IfSome}
use Rattle.std.proofs.lemmas.Int.{ints}
use Rattle.std.proofs.lemmas.Bool.{cases_eq, cases_lt}
use Rattle.std.proofs.lemmas.List.{get_or_past, get_or-map}
use Rattle.std.proofs.lemmas.List.Elements.{All-get_or}
use Rattle.wm_interval.specs.declared.Interval.{Interval}
use Rattle.wm_numbers.specs.Within.{Within}
use Rattle.wm_octagon.specs.Layout.{opposite, row_len, bound, table}
use Rattle.wm_octagon.specs.Closing.{top}
use Rattle.wm_octagon.specs.HalfTable.{HalfTable, IsSmall}
use Rattle.wm_octagon.specs.Medium.{Filled}
use Rattle.wm_octagon.specs.Ways.{at}
use Rattle.wm_octagon.specs.Points.{side_value, IsPoint, IsTight, Attains, LeastOctagon}
use Rattle.wm_octagon.specs.Changes.{apart}
use Rattle.wm_octagon.specs.Ranges.{IsNarrow, InRanges, low_of, high_of, range_top, end_of}
use Rattle.wm_octagon.specs.Projecting.{picked, side_by, source, top_by, drawn_top, between, projected, IsPicked, ProjectedOf, IsOwn}
use Rattle.wm_octagon.specs.View as view
use Rattle.wm_octagon.specs.View.{OctagonView, IsBoxed, IsKept}
use Rattle.wm_octagon.proofs.Rows.{entry-table}
use Rattle.wm_octagon.proofs.Tables.{opposite-lt}
use Rattle.wm_octagon.proofs.Attained.{side_value-opposite, side_value-even, side_value-odd}
use Rattle.wm_octagon.proofs.Closings.{table-ext}
use Rattle.wm_octagon.proofs.Tight.{meets_of, column-lt, attains_bound}
use Rattle.wm_octagon.proofs.Least.{value_le_top, tight_of_least}
use Rattle.wm_octagon.proofs.Moves.{peak, even_or_odd}
use Rattle.wm_octagon.proofs.Boxed.{InBox, small_of_least, boxed_of_least}
use Rattle.wm_octagon.proofs.Ranges.{top-even, top-odd, apart-same, apart-other, apart-ext, both, low_point, narrow_tiny}

-- each picked variable is one of the first n
abbrev pub AreNamed : ℕ → List (Option ℕ) → Type 0
AreNamed n keep = (v : ℕ) → IfSome (picked keep v) (λ w. w < n)

-- ---- points with picked values

abbrev drawn_value : Option ℕ → (ℕ → ℤ) → ℤ → ℤ
drawn_value None was z = z
drawn_value (Some i) was z = was i

-- the picked variables have the values of `was`, the others those of `free`
drawn : List (Option ℕ) → (ℕ → ℤ) → (ℕ → ℤ) → ℕ → ℤ
drawn keep was free v = drawn_value (picked keep v) was (free v)

picked_is : (p : Option ℕ) (low high : ℤ) (was : ℕ → ℤ) (z : ℤ) → Within low high z → IsPicked p low high was (drawn_value p was z)
picked_is None low high was z w = w
picked_is (Some v) low high was z w = refl

drawn_is : (n : ℕ) (xs : List ℤ) (keep : List (Option ℕ)) (rs : List Interval) (was free : ℕ → ℤ) → length rs ≡ length keep → IsPoint n xs was → InRanges rs free → ProjectedOf (record { variables = n; bounds = Some xs }) keep rs (drawn keep was free)
unfolding drawn
drawn_is n xs keep rs was free e p f = record {
  was = was;
  point = p;
  each = λ v hv. picked_is (picked keep v) (low_of rs v) (high_of rs v) was (free v) (f.inside v (omega arith));
}

drawn-even : (p : Option ℕ) (was free : ℕ → ℤ) (k : ℕ) → k % 2 ≡ 0 → drawn_value p was (free (k / 2)) ≡ drawn_value (side_by p k) (side_value was) (side_value free k)
drawn-even None was free k e = sym (side_value-even free k e)
drawn-even (Some v) was free k e = sym (side_value-even was (2 * v + k % 2) (omega arith) ∙ ap was (omega arith))

drawn-odd : (p : Option ℕ) (was free : ℕ → ℤ) (k : ℕ) → k % 2 ≡ 1 → neg_ℤ (drawn_value p was (free (k / 2))) ≡ drawn_value (side_by p k) (side_value was) (side_value free k)
drawn-odd None was free k e = sym (side_value-odd free k e)
drawn-odd (Some v) was free k e = sym (side_value-odd was (2 * v + k % 2) (omega arith) ∙ ap (λ w. neg_ℤ (was w)) (omega arith))

-- the value of a side at such a point
side-drawn : (keep : List (Option ℕ)) (was free : ℕ → ℤ) (k : ℕ) (p : Option ℕ) → picked keep (k / 2) ≡ p → side_value (drawn keep was free) k ≡ drawn_value (side_by p k) (side_value was) (side_value free k)
unfolding drawn
side-drawn keep was free k p h = elim (even_or_odd k) [
  | inl e ↦ side_value-even (drawn keep was free) k e ∙ ap (λ q. drawn_value q was (free (k / 2))) h ∙ drawn-even p was free k e
  | inr e ↦ side_value-odd (drawn keep was free) k e ∙ ap (λ q. neg_ℤ (drawn_value q was (free (k / 2)))) h ∙ drawn-odd p was free k e
]

-- ---- each point so made meets the bounds

picked-side : (x was : ℕ → ℤ) (v k : ℕ) → x (k / 2) ≡ was v → side_value x k ≡ side_value was (2 * v + k % 2)
picked-side x was v k h = elim (even_or_odd k) [
  | inl e ↦ side_value-even x k e ∙ h ∙ ap was (omega arith) ∙ sym (side_value-even was (2 * v + k % 2) (omega arith))
  | inr e ↦ side_value-odd x k e ∙ ap neg_ℤ h ∙ ap (λ w. neg_ℤ (was w)) (omega arith) ∙ sym (side_value-odd was (2 * v + k % 2) (omega arith))
]

le_by : (n : ℕ) (xs : List ℤ) (p : Option ℕ) (rs : List Interval) (was x : ℕ → ℤ) (k : ℕ) → IsPoint n xs was → IfSome p (λ v. v < n) → IsPicked p (low_of rs (k / 2)) (high_of rs (k / 2)) was (x (k / 2))
    → side_value x k ≤ℤ top_by (side_by p k) (top (bound xs)) (range_top rs k)
le_by n xs None rs was x k q named w =
    let above = w.above in
    let below = w.below in
    elim (even_or_odd k) [
      | inl e ↦ (let s = side_value-even x k e in let t = top-even rs k e in omega (arith, ints))
      | inr e ↦ (let s = side_value-odd x k e in let t = top-odd rs k e in omega (arith, ints))
    ]
le_by n xs (Some v) rs was x k q named w =
    let s = picked-side x was v k w in
    let i_in : 2 * v + k % 2 < 2 * n = omega arith in
    let a = value_le_top n (bound xs) was (meets_of n xs was q) (2 * v + k % 2) i_in in
    omega (arith, ints)

projected_le : (n : ℕ) (xs : List ℤ) (keep : List (Option ℕ)) (rs : List Interval) (x : ℕ → ℤ) → AreNamed n keep → ProjectedOf (record { variables = n; bounds = Some xs }) keep rs x
    → (k : ℕ) → k < 2 * length keep → side_value x k ≤ℤ drawn_top keep rs (top (bound xs)) k
projected_le n xs keep rs x named p k hk = le_by n xs (picked keep (k / 2)) rs p.was x k p.point (named (k / 2)) (p.each (k / 2) (omega arith))

apart_le : (tops : ℕ → ℤ) (x : ℕ → ℤ) (k l : ℕ) → side_value x (opposite k) ≤ℤ tops (opposite k) → side_value x l ≤ℤ tops l → (side_value x l -ℤ side_value x k) ≤ℤ apart tops k l
apart_le tops x k l a b =
    let s = side_value-opposite x k in
    elim (cases_eq k l) [
      | inl e ↦ (let z = apart-same tops k l e in let y = ap (side_value x) e in omega (arith, ints))
      | inr d ↦ (let z = apart-other tops k l d in omega (arith, ints))
    ]

holds_by : (n : ℕ) (xs : List ℤ) (p q : Option ℕ) (low high low' high' : ℤ) (was x : ℕ → ℤ) (k l : ℕ) (alone : ℤ) → IsPoint n xs was → IfSome p (λ v. v < n) → IfSome q (λ v. v < n)
    → IsPicked p low high was (x (k / 2)) → IsPicked q low' high' was (x (l / 2)) → (side_value x l -ℤ side_value x k) ≤ℤ alone
    → (side_value x l -ℤ side_value x k) ≤ℤ between (side_by p k) (side_by q l) (bound xs) alone
holds_by n xs None q low high low' high' was x k l alone pt hp hq wp wq a = a
holds_by n xs (Some v) None low high low' high' was x k l alone pt hp hq wp wq a = a
holds_by n xs (Some v) (Some w) low high low' high' was x k l alone pt hp hq wp wq a =
    let s = picked-side x was v k wp in
    let t = picked-side x was w l wq in
    let i_in : 2 * v + k % 2 < 2 * n = omega arith in
    let j_in : 2 * w + l % 2 < 2 * n = omega arith in
    let m = (meets_of n xs was pt).within (2 * v + k % 2) (2 * w + l % 2) i_in j_in in
    omega (arith, ints)

project-holds : (n : ℕ) (xs : List ℤ) (keep : List (Option ℕ)) (rs : List Interval) → AreNamed n keep
    → (x : ℕ → ℤ) → ProjectedOf (record { variables = n; bounds = Some xs }) keep rs x → (k l : ℕ) → k < 2 * length keep → l < 2 * length keep
    → (side_value x l -ℤ side_value x k) ≤ℤ projected keep (drawn_top keep rs (top (bound xs))) (bound xs) k l
project-holds n xs keep rs named x p k l hk hl =
    holds_by n xs (picked keep (k / 2)) (picked keep (l / 2)) (low_of rs (k / 2)) (high_of rs (k / 2)) (low_of rs (l / 2)) (high_of rs (l / 2)) p.was x k l (apart (drawn_top keep rs (top (bound xs))) k l)
    p.point (named (k / 2)) (named (l / 2)) (p.each (k / 2) (omega arith)) (p.each (l / 2) (omega arith))
    (apart_le (drawn_top keep rs (top (bound xs))) x k l
    (projected_le n xs keep rs x named p (opposite k) (opposite-lt (length keep) k hk))
    (projected_le n xs keep rs x named p l hl))

-- ---- each bound is attained

high_by : (xs : List ℤ) (p : Option ℕ) (rs : List Interval) (was free : ℕ → ℤ) (k : ℕ) → IfSome (side_by p k) (λ i. side_value was i ≡ top (bound xs) i) → side_value free k ≡ range_top rs k
    → drawn_value (side_by p k) (side_value was) (side_value free k) ≡ top_by (side_by p k) (top (bound xs)) (range_top rs k)
high_by xs None rs was free k a b = b
high_by xs (Some v) rs was free k a b = a

-- a side that is at its greatest
high : (xs : List ℤ) (keep : List (Option ℕ)) (rs : List Interval) (was free : ℕ → ℤ) (k : ℕ) (p : Option ℕ) → picked keep (k / 2) ≡ p
    → IfSome (side_by p k) (λ i. side_value was i ≡ top (bound xs) i) → side_value free k ≡ range_top rs k
    → side_value (drawn keep was free) k ≡ drawn_top keep rs (top (bound xs)) k
high xs keep rs was free k p e a b =
    side-drawn keep was free k p e ∙ high_by xs p rs was free k a b ∙ ap (λ q. top_by (side_by q k) (top (bound xs)) (range_top rs k)) (sym e)

-- the points that are made
abbrev Made : ℕ → List ℤ → List (Option ℕ) → List Interval → (ℕ → ℤ) → Type 0
Made n xs keep rs x = ProjectedOf (record { variables = n; bounds = Some xs }) keep rs x

attains_apart : (P : (ℕ → ℤ) → Type 0) (tops : ℕ → ℤ) (x : ℕ → ℤ) (k l : ℕ) → P x → k ≢ l → side_value x (opposite k) ≡ tops (opposite k) → side_value x l ≡ tops l → Attains P k l (apart tops k l)
attains_apart P tops x k l p d a b = record {
  x = x;
  is = p;
  gives = let s = side_value-opposite x k in let z = apart-other tops k l d in omega (arith, ints);
}

attains_same : (P : (ℕ → ℤ) → Type 0) (tops : ℕ → ℤ) (x : ℕ → ℤ) (k l : ℕ) → P x → k ≡ l → Attains P k l (apart tops k l)
attains_same P tops x k l p e = record {
  x = x;
  is = p;
  gives = let z = apart-same tops k l e in let y = ap (side_value x) e in omega (arith, ints);
}

-- two sides that are known apart from each other alone: `was` has both at their greatest, so far as they are picked
alone : (n : ℕ) (xs : List ℤ) (keep : List (Option ℕ)) (rs : List Interval) (was : ℕ → ℤ) (k l : ℕ) (p q : Option ℕ) → length rs ≡ length keep → IsPoint n xs was
    → picked keep (k / 2) ≡ p → picked keep (l / 2) ≡ q
    → IfSome (side_by p (opposite k)) (λ i. side_value was i ≡ top (bound xs) i) → IfSome (side_by q l) (λ i. side_value was i ≡ top (bound xs) i)
    → k < 2 * length keep → l < 2 * length keep
    → Attains (Made n xs keep rs) k l (apart (drawn_top keep rs (top (bound xs))) k l)
alone n xs keep rs was k l p q e pt ep eq a b hk hl = elim (cases_eq k l) [
  | inl same ↦ attains_same (Made n xs keep rs) (drawn_top keep rs (top (bound xs))) (drawn keep was (low_of rs)) k l (drawn_is n xs keep rs was (low_of rs) e pt (low_point rs)) same
  | inr d ↦ (
      let free = both rs k l (omega arith) (omega arith) d in
      let half : opposite k / 2 ≡ k / 2 = omega arith in
      attains_apart (Made n xs keep rs) (drawn_top keep rs (top (bound xs))) (drawn keep was free.x) k l (drawn_is n xs keep rs was free.x e pt free.is) d
      (high xs keep rs was free.x (opposite k) p (ap (picked keep) half ∙ ep) a free.first)
      (high xs keep rs was free.x l q eq b free.second))
]

attained_by : (n : ℕ) (xs : List ℤ) (keep : List (Option ℕ)) (rs : List Interval) (k l : ℕ) (p q : Option ℕ) → IsTight n xs → length rs ≡ length keep
    → picked keep (k / 2) ≡ p → picked keep (l / 2) ≡ q → IfSome p (λ v. v < n) → IfSome q (λ v. v < n) → k < 2 * length keep → l < 2 * length keep
    → Attains (Made n xs keep rs) k l (between (side_by p k) (side_by q l) (bound xs) (apart (drawn_top keep rs (top (bound xs))) k l))
attained_by n xs keep rs k l None None t e ep eq hp hq hk hl = alone n xs keep rs t.point k l None None e t.is_point ep eq tt tt hk hl
attained_by n xs keep rs k l None (Some w) t e ep eq hp hq hk hl =
    let up = peak n xs (2 * w + l % 2) t (omega arith) in
    alone n xs keep rs up.x k l None (Some w) e up.point ep eq tt up.gives hk hl
attained_by n xs keep rs k l (Some v) None t e ep eq hp hq hk hl =
    let up = peak n xs (2 * v + opposite k % 2) t (omega arith) in
    alone n xs keep rs up.x k l (Some v) None e up.point ep eq up.gives tt hk hl
attained_by n xs keep rs k l (Some v) (Some w) t e ep eq hp hq hk hl =
    let i_in : 2 * v + k % 2 < 2 * n = omega arith in
    let j_in : 2 * w + l % 2 < 2 * n = omega arith in
    let a = attains_bound n (IsPoint n xs) xs t.attained (2 * v + k % 2) (2 * w + l % 2) i_in j_in in
    record {
      x = drawn keep a.x (low_of rs);
      is = drawn_is n xs keep rs a.x (low_of rs) e a.is (low_point rs);
      gives =
          let s : side_value (drawn keep a.x (low_of rs)) k ≡ side_value a.x (2 * v + k % 2) = side-drawn keep a.x (low_of rs) k (Some v) ep in
          let z : side_value (drawn keep a.x (low_of rs)) l ≡ side_value a.x (2 * w + l % 2) = side-drawn keep a.x (low_of rs) l (Some w) eq in
          let g = a.gives in
          omega (arith, ints);
    }

pub project-least : (n : ℕ) (xs : List ℤ) (keep : List (Option ℕ)) (rs : List Interval) → IsTight n xs → length rs ≡ length keep → AreNamed n keep
    → LeastOctagon (length keep) (ProjectedOf (record { variables = n; bounds = Some xs }) keep rs) (table (2 * length keep) (projected keep (drawn_top keep rs (top (bound xs))) (bound xs)))
project-least n xs keep rs t e named = record {
  some = drawn keep t.point (low_of rs);
  some_is = drawn_is n xs keep rs t.point (low_of rs) e t.is_point (low_point rs);
  holds = λ x p. record {
    meets = λ k l hk here.
        let h = project-holds n xs keep rs named x p k l hk (column-lt (length keep) k l hk here) in
        let z = entry-table (2 * length keep) (projected keep (drawn_top keep rs (top (bound xs))) (bound xs)) k l hk here in
        omega (arith, ints);
  };
  attained = λ k l hk here.
      subst (λ b. Attains (Made n xs keep rs) k l b) (sym (entry-table (2 * length keep) (projected keep (drawn_top keep rs (top (bound xs))) (bound xs)) k l hk here))
      (attained_by n xs keep rs k l (picked keep (k / 2)) (picked keep (l / 2)) t e refl refl (named (k / 2)) (named (l / 2)) hk (column-lt (length keep) k l hk here));
}

-- ---- the numbers stay small

box_by : (n : ℕ) (xs : List ℤ) (p : Option ℕ) (low high : ℤ) (was : ℕ → ℤ) (z : ℤ) → IsBoxed n xs → IsPoint n xs was → IfSome p (λ v. v < n)
    → Within (negsuc 2147483647) (pos 2147483648) low → Within (negsuc 2147483647) (pos 2147483648) high → IsPicked p low high was z
    → Within (negsuc 1099511627774) (pos 1099511627775) z
box_by n xs None low high was z b pt named hl hh w =
    let a = w.above in
    let c = w.below in
    let l = hl.above in
    let h = hh.below in
    record { above = omega (arith, ints); below = omega (arith, ints) }
box_by n xs (Some v) low high was z b pt named hl hh w = subst (Within (negsuc 1099511627774) (pos 1099511627775)) (sym w) (b.boxed was pt v named)

in_box : (n : ℕ) (xs : List ℤ) (keep : List (Option ℕ)) (rs : List Interval) → IsBoxed n xs → AreNamed n keep → All IsNarrow rs → (x : ℕ → ℤ) → ProjectedOf (record { variables = n; bounds = Some xs }) keep rs x → InBox (length keep) x
in_box n xs keep rs b named a x p = record {
  inside = λ v hv.
      let r = narrow_tiny rs v a in
      box_by n xs (picked keep v) (low_of rs v) (high_of rs v) p.was (x v) b p.point (named v) r.0 r.1 (p.each v hv);
}

pub project-small : (n : ℕ) (xs : List ℤ) (keep : List (Option ℕ)) (rs : List Interval) → IsTight n xs → IsBoxed n xs → length rs ≡ length keep → AreNamed n keep → All IsNarrow rs
    → (k l : ℕ) → k < 2 * length keep → l < row_len k → IsSmall (projected keep (drawn_top keep rs (top (bound xs))) (bound xs) k l)
project-small n xs keep rs t b e named a k l hk here =
    let f = projected keep (drawn_top keep rs (top (bound xs))) (bound xs) in
    subst IsSmall (entry-table (2 * length keep) f k l hk here)
    (small_of_least (length keep) (Made n xs keep rs) (table (2 * length keep) f) (in_box n xs keep rs b named a) (project-least n xs keep rs t e named) k l hk here)

pub project-kept : (n : ℕ) (xs : List ℤ) (keep : List (Option ℕ)) (rs : List Interval) → length keep ≤ 32 → IsTight n xs → IsBoxed n xs → length rs ≡ length keep → AreNamed n keep → All IsNarrow rs
    → IsKept (length keep) (table (2 * length keep) (projected keep (drawn_top keep rs (top (bound xs))) (bound xs))) false
project-kept n xs keep rs few t b e named a =
    let least = project-least n xs keep rs t e named in
    record {
      few = few;
      tight = λ _. tight_of_least (length keep) (Made n xs keep rs) _ least;
      boxed = λ _. boxed_of_least (length keep) (Made n xs keep rs) _ (in_box n xs keep rs b named a) least;
    }

-- ---- the tops that the code hands over

ends-even : (r : Interval) (k : ℕ) → k % 2 ≡ 0 → end_of r k ≡ r.high
ends-even r k e = rw e refl

ends-odd : (r : Interval) (k : ℕ) → k % 2 ≡ 1 → end_of r k ≡ neg_ℤ r.low
ends-odd r k e = rw e refl

pub named_of : (n : ℕ) (keep : List (Option ℕ)) → All (λ p. IfSome p (λ v. v < n)) keep → AreNamed n keep
named_of n keep a v = elim (cases_lt v (length keep)) [
  | inl inside ↦ All-get_or (λ (p : Option ℕ). IfSome p (λ w. w < n)) keep v None inside a
  | inr past ↦ subst (λ (p : Option ℕ). IfSome p (λ w. w < n)) (sym (get_or_past keep v None past)) tt
]

-- the end of a range of the list is that of the range itself
pub end-is : (rs : List Interval) (k : ℕ) (d : Interval) → k / 2 < length rs → end_of (get_or rs (k / 2) d) k ≡ range_top rs k
end-is rs k d h =
    let l = get_or-map (λ (q : Interval). q.low) rs (k / 2) d (pos 0) h in
    let g = get_or-map (λ (q : Interval). q.high) rs (k / 2) d (pos 0) h in
    elim (even_or_odd k) [
      | inl e ↦ ends-even (get_or rs (k / 2) d) k e ∙ sym g ∙ sym (top-even rs k e)
      | inr e ↦ ends-odd (get_or rs (k / 2) d) k e ∙ ap neg_ℤ (sym l) ∙ sym (top-odd rs k e)
    ]

top-ext : (n : ℕ) (p : Option ℕ) (f g : ℕ → ℤ) (end : ℤ) (k : ℕ) → IfSome p (λ v. v < n) → ((i : ℕ) → i < 2 * n → f i ≡ g i) → top_by (side_by p k) f end ≡ top_by (side_by p k) g end
top-ext n None f g end k h e = refl
top-ext n (Some v) f g end k h e = e (2 * v + k % 2) (omega arith)

-- the two arrays of greatest values: those of the old sides, and those of the new ones
pub record TwoTops (n : ℕ) (xs : List ℤ) (keep : List (Option ℕ)) (rs : List Interval) (old tops : List ℤ) : Type 0 where
  pub before : Filled IsSmall (top (bound xs)) (2 * n) old
  pub after : Filled IsSmall (drawn_top keep rs (at old)) (2 * length keep) tops

tops_are : (n : ℕ) (xs : List ℤ) (keep : List (Option ℕ)) (rs : List Interval) (old tops : List ℤ) → AreNamed n keep → TwoTops n xs keep rs old tops → (k : ℕ) → k < 2 * length keep → at tops k ≡ drawn_top keep rs (top (bound xs)) k
tops_are n xs keep rs old tops named t k hk = t.after.done k hk ∙ top-ext n (picked keep (k / 2)) (at old) (top (bound xs)) (range_top rs k) k (named (k / 2)) t.before.done

pub project-value : (n : ℕ) (xs : List ℤ) (keep : List (Option ℕ)) (rs : List Interval) (old tops : List ℤ) → AreNamed n keep → TwoTops n xs keep rs old tops → (k l : ℕ) → k < 2 * length keep → l < row_len k
    → projected keep (at tops) (bound xs) k l ≡ projected keep (drawn_top keep rs (top (bound xs))) (bound xs) k l
project-value n xs keep rs old tops named t k l hk here =
    ap (between (source keep k) (source keep l) (bound xs))
    (apart-ext (at tops) (drawn_top keep rs (top (bound xs))) k l
    (tops_are n xs keep rs old tops named t (opposite k) (opposite-lt (length keep) k hk))
    (tops_are n xs keep rs old tops named t l (column-lt (length keep) k l hk here)))

-- the half table that the change leaves
pub project-list : (n m : ℕ) (xs : List ℤ) (keep : List (Option ℕ)) (rs : List Interval) (old tops : List ℤ) → m ≡ length keep → AreNamed n keep → TwoTops n xs keep rs old tops
    → table (2 * m) (λ k l. projected keep (at tops) (bound xs) k l) ≡ table (2 * length keep) (projected keep (drawn_top keep rs (top (bound xs))) (bound xs))
project-list n m xs keep rs old tops e named t =
    ap (λ q. table (2 * q) (λ k l. projected keep (at tops) (bound xs) k l)) e
    ∙ table-ext (2 * length keep) (λ k l. projected keep (at tops) (bound xs) k l) (projected keep (drawn_top keep rs (top (bound xs))) (bound xs)) (project-value n xs keep rs old tops named t)

pub project-half : (h : HalfTable) (n : ℕ) (xs : List ℤ) (keep : List (Option ℕ)) (rs : List Interval) (old tops : List ℤ) → h.variables ≡ length keep → AreNamed n keep → TwoTops n xs keep rs old tops
    → record h { bounds = table (2 * h.variables) (λ k l. projected keep (at tops) (bound xs) k l) } ≡ record { variables = length keep; bounds = table (2 * length keep) (projected keep (drawn_top keep rs (top (bound xs))) (bound xs)) }
project-half h n xs keep rs old tops e named t =
    let make = λ (m : ℕ) (ys : List ℤ). let r : HalfTable = record { variables = m; bounds = ys } in r in
    ap (λ m. make m (table (2 * h.variables) (λ k l. projected keep (at tops) (bound xs) k l))) e
    ∙ ap (make (length keep)) (project-list n h.variables xs keep rs old tops e named t)

-- an octagon without points leaves none
pub nothing_made : (o : OctagonView) (keep : List (Option ℕ)) (rs : List Interval) → o.bounds ≡ None → (x : ℕ → ℤ) → ProjectedOf o keep rs x → ⊥
nothing_made o keep rs e x p = subst (λ b. view.PointOf o.variables b p.was) e p.point

-- ---- all variables at their own places

own-side : (x was : ℕ → ℤ) (k : ℕ) → x (k / 2) ≡ was (k / 2) → side_value x k ≡ side_value was k
own-side x was k h = elim (even_or_odd k) [
  | inl e ↦ side_value-even x k e ∙ h ∙ sym (side_value-even was k e)
  | inr e ↦ side_value-odd x k e ∙ ap neg_ℤ h ∙ sym (side_value-odd was k e)
]

own_value : (p : Option ℕ) (low high : ℤ) (was : ℕ → ℤ) (v : ℕ) (z : ℤ) → p ≡ Some v → IsPicked p low high was z → z ≡ was v
own_value p low high was v z e h = subst (λ (q : Option ℕ). IsPicked q low high was z) e h

own_is : (n : ℕ) (xs : List ℤ) (keep : List (Option ℕ)) (rs : List Interval) (x : ℕ → ℤ) → IsOwn keep (2 * n) → IsPoint n xs x → Made n xs keep rs x
own_is n xs keep rs x o p = record {
  was = x;
  point = p;
  each = λ v hv. subst (λ (q : Option ℕ). IsPicked q (low_of rs v) (high_of rs v) x (x v)) (sym (o.each v hv)) refl;
}

-- what is left where all variables are picked at their own places is the octagon itself
pub own-least : (n : ℕ) (xs : List ℤ) (keep : List (Option ℕ)) (rs : List Interval) → IsTight n xs → IsOwn keep (2 * n)
    → LeastOctagon n (ProjectedOf (record { variables = n; bounds = Some xs }) keep rs) xs
own-least n xs keep rs t o = record {
  some = t.point;
  some_is = own_is n xs keep rs t.point o t.is_point;
  holds = λ x p. record {
    meets = λ k l hk here.
        let long = o.long in
        let hl = column-lt n k l hk here in
        let half_k : k / 2 < length keep = omega arith in
        let half_l : l / 2 < length keep = omega arith in
        let s = own-side x p.was k (own_value (picked keep (k / 2)) (low_of rs (k / 2)) (high_of rs (k / 2)) p.was (k / 2) (x (k / 2)) (o.each (k / 2) half_k) (p.each (k / 2) half_k)) in
        let t = own-side x p.was l (own_value (picked keep (l / 2)) (low_of rs (l / 2)) (high_of rs (l / 2)) p.was (l / 2) (x (l / 2)) (o.each (l / 2) half_l) (p.each (l / 2) half_l)) in
        let m = p.point.meets k l hk here in
        omega (arith, ints);
  };
  attained = λ k l hk here. let a = t.attained k l hk here in record { x = a.x; is = own_is n xs keep rs a.x o a.is; gives = a.gives };
}
