-- What a variable that got a new value leaves of an octagon.
use Rattle.std.proofs.Common.{◌≡◌, inl, inr, ℕ, ◌+◌, ◌*◌, ◌/◌, ◌<◌, ◌≤◌, ◌≢◌, ℤ, pos, negsuc, ◌+ℤ◌, ◌≤ℤ◌, ◌^◌, unsigned_abs, List, Some, refl, sym, ◌∙◌, ap, subst, arith, nat_eq, cond, true, false, to_z, of_z, w64}
use Rattle.std.proofs.lemmas.Int.{ints}
use Rattle.std.proofs.lemmas.Bool.{cases_eq}
use Rattle.wm_numbers.specs.Within.{Within}
use Rattle.wm_octagon.specs.Layout.{opposite, row_len, entry, bound, table}
use Rattle.wm_octagon.specs.HalfTable.{IsSmall}
use Rattle.wm_octagon.specs.Medium.{Filled}
use Rattle.wm_octagon.specs.Ways.{at}
use Rattle.wm_octagon.specs.Points.{IsTight, LeastOctagon}
use Rattle.wm_octagon.specs.Changes.{source_of, rise, assigned, Assigned}
use Rattle.wm_octagon.specs.Assigning.{read_of, risen, AssignedOf}
use Rattle.wm_octagon.specs.View.{OctagonView, IsBoxed, IsKept}
use Rattle.wm_octagon.proofs.Rows.{entry-table}
use Rattle.wm_octagon.proofs.Tables.{opposite-opposite, opposite-lt}
use Rattle.wm_octagon.proofs.Tight.{bound_here, column-lt, table_of}
use Rattle.wm_octagon.proofs.Closings.{table-ext}
use Rattle.wm_octagon.proofs.Small.{abs_within}
use Rattle.wm_octagon.proofs.Least.{tight_of_least}
use Rattle.wm_octagon.proofs.Moves.{assign-least, source-lt, source_plus, source_minus, source_other, which, plus, minus, other}
use Rattle.wm_octagon.proofs.Boxed.{InBox, small_of_least, boxed_of_least}
use Rattle.wm_octagon.proofs.Octagons.{least_iso}

-- the two rows that the code read
pub record TwoRows (n : ℕ) (xs : List ℤ) (s : ℕ) (row mirror : List ℤ) : Type 0 where
  pub source : Filled IsSmall (bound xs s) (2 * n) row
  pub back : Filled IsSmall (bound xs (opposite s)) (2 * n) mirror

read-plus : (v s : ℕ) (row mirror : ℕ → ℤ) (b : ℤ) (k l : ℕ) → k ≡ 2 * v → read_of v s row mirror b k l ≡ row (source_of v s l)
read-plus v s row mirror b k l h = let e : nat_eq k (2 * v) ≡ true = grind arith in rw e refl

read-minus : (v s : ℕ) (row mirror : ℕ → ℤ) (b : ℤ) (k l : ℕ) → k ≡ 2 * v + 1 → read_of v s row mirror b k l ≡ mirror (source_of v s l)
read-minus v s row mirror b k l h =
    let e : nat_eq k (2 * v) ≡ false = grind arith in
    let f : nat_eq k (2 * v + 1) ≡ true = grind arith in
    rw (e, f) refl

read-column_plus : (v s : ℕ) (row mirror : ℕ → ℤ) (b : ℤ) (k l : ℕ) → k / 2 ≢ v → l ≡ 2 * v → read_of v s row mirror b k l ≡ mirror (opposite k)
read-column_plus v s row mirror b k l h q =
    let e : nat_eq k (2 * v) ≡ false = grind arith in
    let f : nat_eq k (2 * v + 1) ≡ false = grind arith in
    let g : nat_eq l (2 * v) ≡ true = grind arith in
    rw (e, f, g) refl

read-column_minus : (v s : ℕ) (row mirror : ℕ → ℤ) (b : ℤ) (k l : ℕ) → k / 2 ≢ v → l ≡ 2 * v + 1 → read_of v s row mirror b k l ≡ row (opposite k)
read-column_minus v s row mirror b k l h q =
    let e : nat_eq k (2 * v) ≡ false = grind arith in
    let f : nat_eq k (2 * v + 1) ≡ false = grind arith in
    let g : nat_eq l (2 * v) ≡ false = grind arith in
    let i : nat_eq l (2 * v + 1) ≡ true = grind arith in
    rw (e, f, g, i) refl

pub read-other : (v s : ℕ) (row mirror : ℕ → ℤ) (b : ℤ) (k l : ℕ) → k / 2 ≢ v → l / 2 ≢ v → read_of v s row mirror b k l ≡ b
read-other v s row mirror b k l h q =
    let e : nat_eq k (2 * v) ≡ false = grind arith in
    let f : nat_eq k (2 * v + 1) ≡ false = grind arith in
    let g : nat_eq l (2 * v) ≡ false = grind arith in
    let i : nat_eq l (2 * v + 1) ≡ false = grind arith in
    rw (e, f, g, i) refl

-- what the code reads is the old bound of the sides that k and l are measured by
read-is : (n : ℕ) (xs : List ℤ) (v s : ℕ) (row mirror : List ℤ) → IsTight n xs → s < 2 * n → TwoRows n xs s row mirror → (k l : ℕ) → k < 2 * n → l < row_len k
    → read_of v s (at row) (at mirror) (entry xs k l) k l ≡ bound xs (source_of v s k) (source_of v s l)
read-is n xs v s row mirror t hs r k l hk here =
    let hl = column-lt n k l hk here in
    let m = table_of n xs t in
    let sl = source-lt n v s l hs hl in
    elim (which v k) [
      | plus e ↦ read-plus v s (at row) (at mirror) (entry xs k l) k l e ∙ r.source.done (source_of v s l) sl
          ∙ ap (λ i. bound xs i (source_of v s l)) (sym (ap (source_of v s) e ∙ source_plus v s))
      | minus e ↦ read-minus v s (at row) (at mirror) (entry xs k l) k l e ∙ r.back.done (source_of v s l) sl
          ∙ ap (λ i. bound xs i (source_of v s l)) (sym (ap (source_of v s) e ∙ source_minus v s))
      | other h ↦ elim (which v l) [
        | plus e ↦ read-column_plus v s (at row) (at mirror) (entry xs k l) k l h e ∙ r.back.done (opposite k) (opposite-lt n k hk)
            ∙ sym (m.coherent k s hk hs)
            ∙ ap (λ i. bound xs i s) (sym (source_other v s k h)) ∙ ap (bound xs (source_of v s k)) (sym (ap (source_of v s) e ∙ source_plus v s))
        | minus e ↦ read-column_minus v s (at row) (at mirror) (entry xs k l) k l h e ∙ r.source.done (opposite k) (opposite-lt n k hk)
            ∙ ap (λ i. bound xs i (opposite k)) (sym (opposite-opposite s)) ∙ sym (m.coherent k (opposite s) hk (opposite-lt n s hs))
            ∙ ap (λ i. bound xs i (opposite s)) (sym (source_other v s k h)) ∙ ap (bound xs (source_of v s k)) (sym (ap (source_of v s) e ∙ source_minus v s))
        | other q ↦ read-other v s (at row) (at mirror) (entry xs k l) k l h q ∙ sym (bound_here xs k l here)
            ∙ ap (λ i. bound xs i l) (sym (source_other v s k h)) ∙ ap (bound xs (source_of v s k)) (sym (source_other v s l q))
      ]
    ]

risen-is : (n : ℕ) (xs : List ℤ) (v s : ℕ) (low high : ℤ) (row mirror : List ℤ) → IsTight n xs → s < 2 * n → TwoRows n xs s row mirror → (k l : ℕ) → k < 2 * n → l < row_len k
    → risen v s low high (at row) (at mirror) (entry xs k l) k l ≡ assigned v s low high (bound xs) k l
risen-is n xs v s low high row mirror t hs r k l hk here =
    ap (λ z. cond (nat_eq k l) (pos 0) (z +ℤ (rise v low high (opposite k) +ℤ rise v low high l))) (read-is n xs v s row mirror t hs r k l hk here)

pub assign-table : (n : ℕ) (xs : List ℤ) (v s : ℕ) (low high : ℤ) (row mirror : List ℤ) → IsTight n xs → s < 2 * n → TwoRows n xs s row mirror
    → table (2 * n) (λ k l. risen v s low high (at row) (at mirror) (entry xs k l) k l) ≡ table (2 * n) (assigned v s low high (bound xs))
assign-table n xs v s low high row mirror t hs r =
    table-ext (2 * n) (λ k l. risen v s low high (at row) (at mirror) (entry xs k l) k l) (assigned v s low high (bound xs)) (risen-is n xs v s low high row mirror t hs r)

-- the points are not far out: the others were not, and v is not by what is asked
pub record Fits (n : ℕ) (xs : List ℤ) (v s : ℕ) (low high : ℤ) : Type 0 where
  pub each : (x : ℕ → ℤ) → Assigned n xs v s low high x → Within (negsuc 1099511627774) (pos 1099511627775) (x v)

in_box : (n : ℕ) (xs : List ℤ) (v s : ℕ) (low high : ℤ) → IsBoxed n xs → Fits n xs v s low high → (x : ℕ → ℤ) → Assigned n xs v s low high x → InBox n x
in_box n xs v s low high b f x p = record {
  inside = λ w hw. elim (cases_eq w v) [
    | inl e ↦ subst (Within (negsuc 1099511627774) (pos 1099511627775)) (sym (ap x e)) (f.each x p)
    | inr d ↦ subst (Within (negsuc 1099511627774) (pos 1099511627775)) (sym (p.others w d)) (b.boxed p.was p.point w hw)
  ];
}

pub assign-sized : (n : ℕ) (xs : List ℤ) (v s : ℕ) (low high : ℤ) (row mirror : List ℤ) → IsTight n xs → IsBoxed n xs → Fits n xs v s low high → s < 2 * n → low ≤ℤ high → TwoRows n xs s row mirror
    → (k l : ℕ) → k < 2 * n → l < row_len k → IsSmall (risen v s low high (at row) (at mirror) (entry xs k l) k l)
assign-sized n xs v s low high row mirror t b f hs o r k l hk here =
    subst IsSmall (entry-table (2 * n) (assigned v s low high (bound xs)) k l hk here ∙ sym (risen-is n xs v s low high row mirror t hs r k l hk here))
    (small_of_least n (Assigned n xs v s low high) (table (2 * n) (assigned v s low high (bound xs))) (in_box n xs v s low high b f) (assign-least n xs v s low high t hs o) k l hk here)

pub assign-kept : (n : ℕ) (xs : List ℤ) (v s : ℕ) (low high : ℤ) → n ≤ 32 → IsTight n xs → IsBoxed n xs → Fits n xs v s low high → s < 2 * n → low ≤ℤ high
    → IsKept n (table (2 * n) (assigned v s low high (bound xs))) false
assign-kept n xs v s low high few t b f hs o =
    let least = assign-least n xs v s low high t hs o in
    record {
      few = few;
      tight = λ _. tight_of_least n (Assigned n xs v s low high) _ least;
      boxed = λ _. boxed_of_least n (Assigned n xs v s low high) _ (in_box n xs v s low high b f) least;
    }

assigned_to : (n : ℕ) (xs : List ℤ) (v s : ℕ) (low high : ℤ) (x : ℕ → ℤ) → Assigned n xs v s low high x → AssignedOf (record { variables = n; bounds = Some xs }) v s low high x
assigned_to n xs v s low high x p = record { was = p.was; point = p.point; others = p.others; more = p.more; more_in = p.more_in; value = p.value }

assigned_from : (n : ℕ) (xs : List ℤ) (v s : ℕ) (low high : ℤ) (x : ℕ → ℤ) → AssignedOf (record { variables = n; bounds = Some xs }) v s low high x → Assigned n xs v s low high x
assigned_from n xs v s low high x p = record { was = p.was; point = p.point; others = p.others; more = p.more; more_in = p.more_in; value = p.value }

pub assigned-least : (n : ℕ) (xs : List ℤ) (v s : ℕ) (low high : ℤ) → IsTight n xs → s < 2 * n → low ≤ℤ high
    → LeastOctagon n (AssignedOf (record { variables = n; bounds = Some xs }) v s low high) (table (2 * n) (assigned v s low high (bound xs)))
assigned-least n xs v s low high t hs o =
    least_iso n (Assigned n xs v s low high) (AssignedOf (record { variables = n; bounds = Some xs }) v s low high) _ (assigned_to n xs v s low high) (assigned_from n xs v s low high) (assign-least n xs v s low high t hs o)

pub fits_of : (n : ℕ) (xs : List ℤ) (v s : ℕ) (low high : ℤ) (o : OctagonView) → record { variables = n; bounds = Some xs } ≡ o → ((x : ℕ → ℤ) → AssignedOf o v s low high x → Within (negsuc 1099511627774) (pos 1099511627775) (x v)) → Fits n xs v s low high
fits_of n xs v s low high o e f = record { each = λ x p. f x (subst (λ (q : OctagonView). AssignedOf q v s low high x) e (assigned_to n xs v s low high x p)) }

pub risen-apart : (v s : ℕ) (low high : ℤ) (row mirror : ℕ → ℤ) (b : ℤ) (k l : ℕ) → k ≢ l → risen v s low high row mirror b k l ≡ read_of v s row mirror b k l +ℤ (rise v low high (opposite k) +ℤ rise v low high l)
risen-apart v s low high row mirror b k l h = let e : nat_eq k l ≡ false = grind arith in rw e refl

pub two_rows : (n : ℕ) (xs : List ℤ) (s o : ℕ) (row mirror : List ℤ) → o ≡ opposite s → Filled IsSmall (bound xs s) (2 * n) row → Filled IsSmall (bound xs o) (2 * n) mirror → TwoRows n xs s row mirror
two_rows n xs s o row mirror e r m = record { source = r; back = subst (λ i. Filled IsSmall (bound xs i) (2 * n) mirror) e m }

pub low_read : (z : ℤ) → unsigned_abs z < 2 ^ 40 → to_z w64 (of_z w64 z) ≡ z
low_read z h = let w = abs_within z h in let a = w.above in let b = w.below in omega (arith, ints)
