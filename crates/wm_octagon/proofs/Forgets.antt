-- What a variable that is set free leaves of an octagon.
use Rattle.std.proofs.Common.{◌≡◌, inl, inr, ℕ, ◌+◌, ◌*◌, ◌/◌, ◌<◌, ◌≤◌, ◌≢◌, ℤ, pos, negsuc, ◌≤ℤ◌, neg_ℤ, ◌^◌, unsigned_abs, List, Some, sym, ◌∙◌, ap, subst, arith, nat_eq, ◌||◌, cond, false}
use Rattle.std.proofs.lemmas.Int.{ints}
use Rattle.std.proofs.lemmas.Bool.{cases_eq}
use Rattle.wm_numbers.specs.Within.{Within}
use Rattle.wm_octagon.specs.Layout.{row_len, entry, bound, table}
use Rattle.wm_octagon.specs.Closing.{top}
use Rattle.wm_octagon.specs.HalfTable.{IsSmall}
use Rattle.wm_octagon.specs.Medium.{Filled}
use Rattle.wm_octagon.specs.Ways.{at}
use Rattle.wm_octagon.specs.Points.{IsTight, LeastOctagon}
use Rattle.wm_octagon.specs.Changes.{apart, loosened, Forgotten}
use Rattle.wm_octagon.specs.View.{IsBoxed, IsKept}
use Rattle.wm_octagon.specs.Sides.{FreedOf}
use Rattle.wm_octagon.proofs.Rows.{entry-table}
use Rattle.wm_octagon.proofs.Small.{abs_within}
use Rattle.wm_octagon.proofs.Tight.{bound_here}
use Rattle.wm_octagon.proofs.Closings.{table-ext}
use Rattle.wm_octagon.proofs.Least.{tight_of_least}
use Rattle.wm_octagon.proofs.Moves.{FreeTops, forget-least}
use Rattle.wm_octagon.proofs.Boxed.{InBox, small_of_least, boxed_of_least}
use Rattle.wm_octagon.proofs.Octagons.{least_iso}

-- the code reads the old bound at its own place
loosened-entry : (xs : List ℤ) (v : ℕ) (tops : ℕ → ℤ) (k l : ℕ) → l < row_len k → loosened v tops (λ _ _. entry xs k l) k l ≡ loosened v tops (bound xs) k l
loosened-entry xs v tops k l here = ap (λ z. cond (nat_eq (k / 2) v || nat_eq (l / 2) v) (apart tops k l) z) (sym (bound_here xs k l here))

pub forget-table : (n : ℕ) (xs : List ℤ) (v : ℕ) (tops : ℕ → ℤ) → table (2 * n) (λ k l. loosened v tops (λ _ _. entry xs k l) k l) ≡ table (2 * n) (loosened v tops (bound xs))
forget-table n xs v tops = table-ext (2 * n) (λ k l. loosened v tops (λ _ _. entry xs k l) k l) (loosened v tops (bound xs)) (λ k l hk here. loosened-entry xs v tops k l here)

pub free_tops : (n : ℕ) (xs : List ℤ) (v : ℕ) (low high : ℤ) (old new : List ℤ) → Filled IsSmall (top (bound xs)) (2 * n) old → at new (2 * v) ≡ high → at new (2 * v + 1) ≡ neg_ℤ low
    → ((k : ℕ) → k / 2 ≢ v → at new k ≡ at old k) → FreeTops n xs v low high (at new)
free_tops n xs v low high old new t p m o = record {
  at_plus = p;
  at_minus = m;
  elsewhere = λ k hk h. o k h ∙ t.done k hk;
}

in_box : (n : ℕ) (xs : List ℤ) (v : ℕ) (low high : ℤ) → IsBoxed n xs → unsigned_abs low < 2 ^ 40 → unsigned_abs high < 2 ^ 40 → (x : ℕ → ℤ) → Forgotten n xs v low high x → InBox n x
in_box n xs v low high b hl hh x p = record {
  inside = λ w hw. elim (cases_eq w v) [
    | inl e ↦ (
        let s = ap x e in
        let l = abs_within low hl in
        let h = abs_within high hh in
        let l1 = l.above in
        let h1 = h.below in
        let a = p.value.above in
        let c = p.value.below in
        record { above = omega (arith, ints); below = omega (arith, ints) })
    | inr d ↦ subst (Within (negsuc 1099511627774) (pos 1099511627775)) (sym (p.others w d)) (b.boxed p.was p.point w hw)
  ];
}

pub forget-sized : (n : ℕ) (xs : List ℤ) (v : ℕ) (low high : ℤ) (tops : ℕ → ℤ) → IsTight n xs → IsBoxed n xs → FreeTops n xs v low high tops → low ≤ℤ high → unsigned_abs low < 2 ^ 40 → unsigned_abs high < 2 ^ 40
    → (k l : ℕ) → k < 2 * n → l < row_len k → IsSmall (loosened v tops (λ _ _. entry xs k l) k l)
forget-sized n xs v low high tops t b f o hl hh k l hk here =
    subst IsSmall (entry-table (2 * n) (loosened v tops (bound xs)) k l hk here ∙ sym (loosened-entry xs v tops k l here))
    (small_of_least n (Forgotten n xs v low high) (table (2 * n) (loosened v tops (bound xs))) (in_box n xs v low high b hl hh) (forget-least n xs v low high tops t f o) k l hk here)

pub forget-kept : (n : ℕ) (xs : List ℤ) (v : ℕ) (low high : ℤ) (tops : ℕ → ℤ) → n ≤ 32 → IsTight n xs → IsBoxed n xs → FreeTops n xs v low high tops → low ≤ℤ high → unsigned_abs low < 2 ^ 40 → unsigned_abs high < 2 ^ 40
    → IsKept n (table (2 * n) (loosened v tops (bound xs))) false
forget-kept n xs v low high tops few t b f o hl hh =
    let least = forget-least n xs v low high tops t f o in
    record {
      few = few;
      tight = λ _. tight_of_least n (Forgotten n xs v low high) _ least;
      boxed = λ _. boxed_of_least n (Forgotten n xs v low high) _ (in_box n xs v low high b hl hh) least;
    }

pub freed-least : (n : ℕ) (xs : List ℤ) (v : ℕ) (low high : ℤ) (tops : ℕ → ℤ) → IsTight n xs → FreeTops n xs v low high tops → low ≤ℤ high
    → LeastOctagon n (FreedOf (record { variables = n; bounds = Some xs }) v low high) (table (2 * n) (loosened v tops (bound xs)))
freed-least n xs v low high tops t f o =
    least_iso n (Forgotten n xs v low high) (FreedOf (record { variables = n; bounds = Some xs }) v low high) _
    (λ x p. record { was = p.was; point = p.point; others = p.others; value = p.value })
    (λ x p. record { was = p.was; point = p.point; others = p.others; value = p.value })
    (forget-least n xs v low high tops t f o)
