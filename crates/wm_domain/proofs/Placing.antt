-- For implementations and generic code: a variable that no bound ties to another has any number between those that it has
-- at points, whatever the other numbers are. This follows from what a state with a point is.
use Rattle.std.proofs.Common.{◌≡◌, ◌≢◌, inl, inr, ℕ, ◌<◌, ◌≤◌, ℤ, ◌≤ℤ◌, ◌+ℤ◌, Bool, true, false, length, sym, subst, arith, Some, None, Option}
use Rattle.std.specs.Prelude.{IsTrue}
use Rattle.std.proofs.lemmas.Int.{ints}
use Rattle.std.proofs.lemmas.Bool.{cases_eq}
use Rattle.wm_numbers.proofs.Order.{le_refl, le_of_eq, neg_mono}
use Rattle.wm_domain.specs.declared.form.Term.{Term}
use Rattle.wm_domain.specs.declared.shape.Shape.{Shape}
use Rattle.wm_domain.specs.Points.{Point, SameBut}
use Rattle.wm_domain.specs.Forms.{signed, term_value}
use Rattle.wm_domain.specs.States.{IsReached, IsCellTold, IsTold}
use Rattle.wm_domain.proofs.Moving.{term-but, signed-order}

-- a point that has its number of v from between those of two points, and the rest from a third, is one of the state
pub record Placing (Has : Point → Type 0) (v : ℕ) : Type 0 where
  pub placed : (p x y r : Point) → Has p → Has x → Has y → SameBut v p r → x.values v ≤ℤ r.values v → r.values v ≤ℤ y.values v → Has r

-- the same by the values of a term
pub placed_term : (Has : Point → Type 0) (t : Term) → Placing Has t.variable → (p x y r : Point) → Has p → Has x → Has y → SameBut t.variable p r
    → term_value x.values t ≤ℤ term_value r.values t → term_value r.values t ≤ℤ term_value y.values t → Has r
placed_term Has t law p x y r hp hx hy s low high =
    elim (signed-order t.negative (x.values t.variable) (r.values t.variable) (y.values t.variable) low high) [
      | inl o ↦ law.placed p x y r hp hx hy s o.0 o.1
      | inr o ↦ law.placed p y x r hp hy hx s o.0 o.1
    ]

reached_by : (Has : Point → Type 0) (b : Bool) (u : ℕ) (x y r : Point) → Has x → Has y → x.values u ≤ℤ r.values u → r.values u ≤ℤ y.values u → IsReached Has (λ (z : ℕ → ℤ). signed b (z u)) r
reached_by Has true u x y r hx hy low high = record { x = x; is = hx; reaches = neg_mono low }
reached_by Has false u x y r hx hy low high = record { x = y; is = hy; reaches = high }

cell_told : (Has : Point → Type 0) (a : ℕ) (p : Point) → Has p → (c : Option ℤ) → p.cells a ≡ c → IsCellTold Has a c
cell_told Has a p h None e = tt
cell_told Has a p h (Some z) e = record { x = p; y = p; x_is = h; y_is = h; low = z; high = z; x_cell = e; y_cell = e; above = le_refl z; below = le_refl z }

past : (n t v : ℕ) → n ≤ v → t < n → t ≡ v → ⊥
past n t v h k e = omega arith

same_sum : (a b c d : ℤ) → a ≡ c → b ≡ d → (a +ℤ b) ≤ℤ (c +ℤ d)
same_sum a b c d e f = omega (arith, ints)

-- v is a single, or there are no bounds on pairs
pub placing_of : (pairs : Bool) (shape : Shape) (Has : Point → Type 0) (v : ℕ) → ((p : Point) → IsTold pairs shape Has p → Has p) → (IsTrue pairs → length shape.group ≤ v) → Placing Has v
placing_of pairs shape Has v told lone = record {
  placed = λ p x y r hp hx hy s low high. told r (record {
    some = p;
    some_is = hp;
    each = λ t ht. elim (cases_eq t.variable v) [
      | inl e ↦ reached_by Has t.negative t.variable x y r hx hy (subst (λ (k : ℕ). x.values k ≤ℤ r.values k) (sym e) low) (subst (λ (k : ℕ). r.values k ≤ℤ y.values k) (sym e) high)
      | inr ne ↦ record { x = p; is = hp; reaches = le_of_eq (term-but v p r t s ne) }
    ];
    pair = λ on t u ht hu apart. record {
      x = p;
      is = hp;
      reaches = same_sum (term_value r.values t) (term_value r.values u) (term_value p.values t) (term_value p.values u)
          (term-but v p r t s (past (length shape.group) t.variable v (lone on) ht))
          (term-but v p r u s (past (length shape.group) u.variable v (lone on) hu));
    };
    cells = λ a ha. cell_told Has a p hp (r.cells a) (sym (s.cells a));
  });
}
