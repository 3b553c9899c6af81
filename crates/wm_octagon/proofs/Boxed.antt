-- Points that are not far out: the bounds of the least octagon of such points are small.
use Rattle.std.proofs.Common.{ℕ, ◌+◌, ◌*◌, ◌/◌, ◌<◌, ℤ, pos, negsuc, List, refl, ◌∙◌, ap, arith}
use Rattle.std.proofs.lemmas.Int.{ints}
use Rattle.wm_numbers.specs.Within.{Within}
use Rattle.wm_octagon.specs.Layout.{row_len, entry}
use Rattle.wm_octagon.specs.HalfTable.{IsSmall}
use Rattle.wm_octagon.specs.Points.{side_value, LeastOctagon}
use Rattle.wm_octagon.specs.View.{IsBoxed}
use Rattle.wm_octagon.proofs.Moves.{side_plus, side_minus, which, plus, minus, other}

-- a point of the box: each of the first n variables is below 2^40 in size
pub record InBox (n : ℕ) (x : ℕ → ℤ) : Type 0 where
  pub inside : (v : ℕ) → v < n → Within (negsuc 1099511627774) (pos 1099511627775) (x v)

side_boxed : (n : ℕ) (x : ℕ → ℤ) (k : ℕ) → InBox n x → k < 2 * n → Within (negsuc 1099511627774) (pos 1099511627775) (side_value x k)
side_boxed n x k b hk =
    let w = b.inside (k / 2) (omega arith) in
    elim (which (k / 2) k) [
      | plus e ↦ (let s = ap (side_value x) e ∙ side_plus x (k / 2) in record { above = omega (arith, ints); below = omega (arith, ints) })
      | minus e ↦ (let s = ap (side_value x) e ∙ side_minus x (k / 2) in record { above = omega (arith, ints); below = omega (arith, ints) })
      | other h ↦ absurd (h refl)
    ]

pub small_of_least : (n : ℕ) (P : (ℕ → ℤ) → Type 0) (xs : List ℤ) → ((x : ℕ → ℤ) → P x → InBox n x) → LeastOctagon n P xs → (k l : ℕ) → k < 2 * n → l < row_len k → IsSmall (entry xs k l)
small_of_least n P xs b t k l hk hl =
    let a = t.attained k l hk hl in
    let g = a.gives in
    let p = side_boxed n a.x k (b a.x a.is) hk in
    let q = side_boxed n a.x l (b a.x a.is) (omega arith) in
    record { above = omega (arith, ints); below = omega (arith, ints) }

pub boxed_of_least : (n : ℕ) (P : (ℕ → ℤ) → Type 0) (xs : List ℤ) → ((x : ℕ → ℤ) → P x → InBox n x) → LeastOctagon n P xs → IsBoxed n xs
boxed_of_least n P xs b t = record {
  boxed = λ x p v hv.
      let up = t.attained (2 * v + 1) (2 * v) (omega arith) (omega arith) in
      let down = t.attained (2 * v) (2 * v + 1) (omega arith) (omega arith) in
      let ug = up.gives in
      let dg = down.gives in
      let um = p.meets (2 * v + 1) (2 * v) (omega arith) (omega arith) in
      let dm = p.meets (2 * v) (2 * v + 1) (omega arith) (omega arith) in
      let ub = (b up.x up.is).inside v hv in
      let db = (b down.x down.is).inside v hv in
      let s1 = side_plus x v in
      let s2 = side_minus x v in
      let s3 = side_plus up.x v in
      let s4 = side_minus up.x v in
      let s5 = side_plus down.x v in
      let s6 = side_minus down.x v in
      record { above = omega (arith, ints); below = omega (arith, ints) };
}
