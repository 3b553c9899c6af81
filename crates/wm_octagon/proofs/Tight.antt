-- A list is tight exactly where its bounds form a table in which none follows more tightly from others.
use Rattle.std.proofs.Common.{◌≡◌, inl, inr, ℕ, ◌*◌, ◌<◌, ◌≤◌, ℤ, List, refl, sym, ◌∙◌, subst, arith, nat_lt, true, false}
use Rattle.std.proofs.lemmas.Int.{ints}
use Rattle.std.proofs.lemmas.Bool.{cases_lt}
use Rattle.wm_octagon.specs.Layout.{opposite, row_len, place, entry, bound, table}
use Rattle.wm_octagon.specs.Closing.{top}
use Rattle.wm_octagon.specs.Points.{IsPoint, IsTight, Attains}
use Rattle.wm_octagon.proofs.Rows.{entry-table}
use Rattle.wm_octagon.proofs.Tables.{IsTable, opposite-lt, half_le, le_half}
use Rattle.wm_octagon.proofs.Attained.{Meets, attained, point_of, side_value-opposite}

-- ---- the bound of any two sides stands at one place

pub bound_here : (xs : List ℤ) (k l : ℕ) → l < row_len k → bound xs k l ≡ entry xs k l
unfolding bound place
bound_here xs k l h = let e : nat_lt l (row_len k) ≡ true = grind arith in rw e refl

pub bound-there : (xs : List ℤ) (k l : ℕ) → row_len k ≤ l → bound xs k l ≡ entry xs (opposite l) (opposite k)
unfolding bound place
bound-there xs k l h = let e : nat_lt l (row_len k) ≡ false = grind arith in rw e refl

pub mirror_in : (k l : ℕ) → row_len k ≤ l → opposite k < row_len (opposite l)
mirror_in k l h = omega arith

pub column-lt : (n k l : ℕ) → k < 2 * n → l < row_len k → l < 2 * n
column-lt n k l h j = omega arith

pub bound-table : (n : ℕ) (f : ℕ → ℕ → ℤ) → ((k l : ℕ) → k < 2 * n → l < 2 * n → f k l ≡ f (opposite l) (opposite k)) → (k l : ℕ) → k < 2 * n → l < 2 * n → bound (table (2 * n) f) k l ≡ f k l
bound-table n f mirror k l hk hl = elim (cases_lt l (row_len k)) [
  | inl here ↦ bound_here (table (2 * n) f) k l here ∙ entry-table (2 * n) f k l hk here
  | inr there ↦ bound-there (table (2 * n) f) k l there ∙ entry-table (2 * n) f (opposite l) (opposite k) (opposite-lt n l hl) (mirror_in k l there) ∙ sym (mirror k l hk hl)
]

-- ---- points

pub meets_of : (n : ℕ) (xs : List ℤ) (x : ℕ → ℤ) → IsPoint n xs x → Meets n (bound xs) x
meets_of n xs x p = record {
  within = λ k l hk hl. elim (cases_lt l (row_len k)) [
    | inl here ↦ (
        let a = p.meets k l hk here in
        let e = bound_here xs k l here in
        omega (arith, ints))
    | inr there ↦ (
        let a = p.meets (opposite l) (opposite k) (opposite-lt n l hl) (mirror_in k l there) in
        let e = bound-there xs k l there in
        let f = side_value-opposite x k in
        let g = side_value-opposite x l in
        omega (arith, ints))
  ];
}

pub point_from : (n : ℕ) (xs : List ℤ) (x : ℕ → ℤ) → Meets n (bound xs) x → IsPoint n xs x
point_from n xs x p = record {
  meets = λ k l hk here.
      let a = p.within k l hk (column-lt n k l hk here) in
      let e = bound_here xs k l here in
      omega (arith, ints);
}

-- a bound at any two sides is attained where those of the list are
pub attains_bound : (n : ℕ) (P : (ℕ → ℤ) → Type 0) (xs : List ℤ) → ((k l : ℕ) → k < 2 * n → l < row_len k → Attains P k l (entry xs k l)) → (k l : ℕ) → k < 2 * n → l < 2 * n → Attains P k l (bound xs k l)
attains_bound n P xs all k l hk hl = elim (cases_lt l (row_len k)) [
  | inl here ↦ subst (λ b. Attains P k l b) (sym (bound_here xs k l here)) (all k l hk here)
  | inr there ↦ (
      let a = all (opposite l) (opposite k) (opposite-lt n l hl) (mirror_in k l there) in
      let e = bound-there xs k l there in
      let f = side_value-opposite a.x k in
      let g = side_value-opposite a.x l in
      let h = a.gives in
      record { x = a.x; is = a.is; gives = omega (arith, ints) })
]

pub table_of : (n : ℕ) (xs : List ℤ) → IsTight n xs → IsTable n (bound xs)
unfolding top
table_of n xs t =
    let at = attains_bound n (IsPoint n xs) xs t.attained in
    record {
      same = λ k hk. let a = at k k hk hk in let g = a.gives in omega (arith, ints);
      coherent = λ k l hk hl.
          let ok = opposite-lt n k hk in
          let ol = opposite-lt n l hl in
          let a = at k l hk hl in
          let ag = a.gives in
          let aw = (meets_of n xs a.x a.is).within (opposite l) (opposite k) ol ok in
          let ak = side_value-opposite a.x k in
          let al = side_value-opposite a.x l in
          let b = at (opposite l) (opposite k) ol ok in
          let bg = b.gives in
          let bw = (meets_of n xs b.x b.is).within k l hk hl in
          let bk = side_value-opposite b.x k in
          let bl = side_value-opposite b.x l in
          omega (arith, ints);
      triangle = λ k r l hk hr hl.
          let a = at k l hk hl in
          let g = a.gives in
          let w = meets_of n xs a.x a.is in
          let u = w.within k r hk hr in
          let v = w.within r l hr hl in
          omega (arith, ints);
      even = λ k hk.
          let a = at (opposite k) k (opposite-lt n k hk) hk in
          let g = a.gives in
          let s = side_value-opposite a.x k in
          let d = half_le (bound xs (opposite k) k) in
          let e = le_half (bound xs (opposite k) k) in
          omega (arith, ints);
      join = λ k l hk hl.
          let ok = opposite-lt n k hk in
          let ol = opposite-lt n l hl in
          let a = at k l hk hl in
          let g = a.gives in
          let w = meets_of n xs a.x a.is in
          let u = w.within (opposite l) l ol hl in
          let v = w.within (opposite (opposite k)) (opposite k) (opposite-lt n (opposite k) ok) ok in
          let sk = side_value-opposite a.x k in
          let sl = side_value-opposite a.x l in
          let sk' = side_value-opposite a.x (opposite k) in
          let d = le_half (bound xs (opposite l) l) in
          let e = le_half (bound xs (opposite (opposite k)) (opposite k)) in
          omega (arith, ints);
    }

pub tight_of : (n : ℕ) (xs : List ℤ) → IsTable n (bound xs) → IsTight n xs
tight_of n xs t =
    let p = point_of n (bound xs) t in
    record {
      point = p.0;
      is_point = point_from n xs p.0 p.1;
      attained = λ k l hk here.
          let a = attained n (bound xs) k l t hk (column-lt n k l hk here) in
          record {
            x = a.x;
            is = point_from n xs a.x a.meets;
            gives = a.gives ∙ bound_here xs k l here;
          };
    }
