-- Cuts one after another.
use Rattle.std.proofs.Common.{◌≡◌, subst, ℕ, ◌+◌, ℤ, pos, neg_ℤ, ◌+ℤ◌, ◌-ℤ◌, ◌≤ℤ◌, List, ◌∷◌, arith, true, false, not}
use Rattle.std.proofs.lemmas.Int.{ints}
use Rattle.wm_domain.specs.Points.{Point}
use Rattle.wm_domain.specs.Forms.{form_value}
use Rattle.wm_domain.specs.Changes.{Kept}
use Rattle.wm_domain.specs.States.{InShape}
use Rattle.wm_domain.specs.declared.form.Form.{Form}
use Rattle.wm_domain.specs.declared.form.Relation.TheVariants.{AtMost}
use Rattle.wm_domain.specs.declared.shape.Shape.{Shape}
use Rattle.wm_cert_text.specs.declared.told.Ends.{Ends}
use Rattle.wm_cert_text.specs.declared.told.Kind.{Kind}
use Rattle.wm_cert_text.specs.declared.told.Kind.TheVariants.{Minus, Plus}
use Rattle.wm_cert_text.specs.declared.told.Pair.{Pair}
use Rattle.wm_state_of.specs.Cuts.{Cut}
use Rattle.wm_state_of.specs.Meeting.{Between, BoundsMet, PairMet, PairsMet, pair_value, turns, one_form, two_form}

pub cut_same : (A : Point → Type 0) (F : Point → Type 0) → ((p : Point) → F p) → Cut A A F
cut_same A F h = record { fewer = λ p a. a; meets = λ p a. h p; kept = λ p a f. a }

pub cut_both : {A B C F G : Point → Type 0} → Cut A B F → Cut B C G → Cut A C (λ p. F p × G p)
cut_both h k = record {
  fewer = λ p c. h.fewer p (k.fewer p c);
  meets = λ p c. (h.meets p (k.fewer p c), k.meets p c);
  kept = λ p a f. k.kept p (h.kept p a f.0) f.1;
}

pub cut_as : {A B F G : Point → Type 0} → ((p : Point) → F p → G p) → ((p : Point) → G p → F p) → Cut A B F → Cut A B G
cut_as to from h = record {
  fewer = h.fewer;
  meets = λ p b. to p (h.meets p b);
  kept = λ p a g. h.kept p a (from p g);
}

-- what a domain says of a test
pub cut_kept : (Old New : Point → Type 0) (shape : Shape) (f : Form) → ((p : Point) → Old p → InShape shape p) → ((p : Point) → New p → Old p)
    → ((p : Point) → New p → Kept Old f AtMost p) → ((p : Point) → InShape shape p → Kept Old f AtMost p → New p)
    → Cut Old New (λ p. form_value p.values f ≤ℤ pos 0)
cut_kept Old New shape f inside fewer made sound = record {
  fewer = fewer;
  meets = λ p h. (made p h).meets;
  kept = λ p h m. sound p (inside p h) (record { point = h; meets = m });
}

-- ---- one variable

above_to : (z l : ℤ) → ((neg_ℤ z +ℤ pos 0) +ℤ l) ≤ℤ pos 0 → l ≤ℤ z
above_to z l h = omega (arith, ints)

above_from : (z l : ℤ) → l ≤ℤ z → ((neg_ℤ z +ℤ pos 0) +ℤ l) ≤ℤ pos 0
above_from z l h = omega (arith, ints)

below_to : (z u : ℤ) → ((z +ℤ pos 0) +ℤ neg_ℤ u) ≤ℤ pos 0 → z ≤ℤ u
below_to z u h = omega (arith, ints)

below_from : (z u : ℤ) → z ≤ℤ u → ((z +ℤ pos 0) +ℤ neg_ℤ u) ≤ℤ pos 0
below_from z u h = omega (arith, ints)

pub variable_cut : (A B C : Point → Type 0) (v : ℕ) (ends : Ends) (above below : Form) → above ≡ one_form v true ends.low → below ≡ one_form v false (neg_ℤ ends.high)
    → Cut A B (λ p. form_value p.values above ≤ℤ pos 0) → Cut B C (λ p. form_value p.values below ≤ℤ pos 0) → Cut A C (λ p. Between ends (p.values v))
variable_cut A B C v ends above below e f h k =
    let first : Cut A B (λ (p : Point). ((neg_ℤ (p.values v) +ℤ pos 0) +ℤ ends.low) ≤ℤ pos 0) = subst (λ (x : Form). Cut A B (λ p. form_value p.values x ≤ℤ pos 0)) e h in
    let second : Cut B C (λ (p : Point). ((p.values v +ℤ pos 0) +ℤ neg_ℤ ends.high) ≤ℤ pos 0) = subst (λ (x : Form). Cut B C (λ p. form_value p.values x ≤ℤ pos 0)) f k in
    cut_as (λ p w. record { above = above_to (p.values v) ends.low w.0; below = below_to (p.values v) ends.high w.1 })
    (λ p w. (above_from (p.values v) ends.low w.above, below_from (p.values v) ends.high w.below))
    (cut_both first second)

-- ---- two variables

minus_above : (a b l : ℤ) → ((neg_ℤ a +ℤ (b +ℤ pos 0)) +ℤ l) ≤ℤ pos 0 → l ≤ℤ (a -ℤ b)
minus_above a b l h = omega (arith, ints)

minus_above_from : (a b l : ℤ) → l ≤ℤ (a -ℤ b) → ((neg_ℤ a +ℤ (b +ℤ pos 0)) +ℤ l) ≤ℤ pos 0
minus_above_from a b l h = omega (arith, ints)

minus_below : (a b u : ℤ) → ((a +ℤ (neg_ℤ b +ℤ pos 0)) +ℤ neg_ℤ u) ≤ℤ pos 0 → (a -ℤ b) ≤ℤ u
minus_below a b u h = omega (arith, ints)

minus_below_from : (a b u : ℤ) → (a -ℤ b) ≤ℤ u → ((a +ℤ (neg_ℤ b +ℤ pos 0)) +ℤ neg_ℤ u) ≤ℤ pos 0
minus_below_from a b u h = omega (arith, ints)

plus_above : (a b l : ℤ) → ((neg_ℤ a +ℤ (neg_ℤ b +ℤ pos 0)) +ℤ l) ≤ℤ pos 0 → l ≤ℤ (a +ℤ b)
plus_above a b l h = omega (arith, ints)

plus_above_from : (a b l : ℤ) → l ≤ℤ (a +ℤ b) → ((neg_ℤ a +ℤ (neg_ℤ b +ℤ pos 0)) +ℤ l) ≤ℤ pos 0
plus_above_from a b l h = omega (arith, ints)

plus_below : (a b u : ℤ) → ((a +ℤ (b +ℤ pos 0)) +ℤ neg_ℤ u) ≤ℤ pos 0 → (a +ℤ b) ≤ℤ u
plus_below a b u h = omega (arith, ints)

plus_below_from : (a b u : ℤ) → (a +ℤ b) ≤ℤ u → ((a +ℤ (b +ℤ pos 0)) +ℤ neg_ℤ u) ≤ℤ pos 0
plus_below_from a b u h = omega (arith, ints)

module _ (A B C : Point → Type 0) (v w : ℕ) (ends : Ends) where
  minus_cut : Cut A B (λ p. form_value p.values (two_form v true w false ends.low) ≤ℤ pos 0) → Cut B C (λ p. form_value p.values (two_form v false w true (neg_ℤ ends.high)) ≤ℤ pos 0)
      → Cut A C (λ p. Between ends (p.values v -ℤ p.values w))
  minus_cut h k =
      cut_as (λ p q. record { above = minus_above (p.values v) (p.values w) ends.low q.0; below = minus_below (p.values v) (p.values w) ends.high q.1 })
      (λ p q. (minus_above_from (p.values v) (p.values w) ends.low q.above, minus_below_from (p.values v) (p.values w) ends.high q.below))
      (cut_both h k)

  plus_cut : Cut A B (λ p. form_value p.values (two_form v true w true ends.low) ≤ℤ pos 0) → Cut B C (λ p. form_value p.values (two_form v false w false (neg_ℤ ends.high)) ≤ℤ pos 0)
      → Cut A C (λ p. Between ends (p.values v +ℤ p.values w))
  plus_cut h k =
      cut_as (λ p q. record { above = plus_above (p.values v) (p.values w) ends.low q.0; below = plus_below (p.values v) (p.values w) ends.high q.1 })
      (λ p q. (plus_above_from (p.values v) (p.values w) ends.low q.above, plus_below_from (p.values v) (p.values w) ends.high q.below))
      (cut_both h k)

kind_cut : (A B C : Point → Type 0) (kind : Kind) (v w : ℕ) (ends : Ends)
    → Cut A B (λ p. form_value p.values (two_form v true w (not (turns kind)) ends.low) ≤ℤ pos 0)
    → Cut B C (λ p. form_value p.values (two_form v false w (turns kind) (neg_ℤ ends.high)) ≤ℤ pos 0)
    → Cut A C (λ p. Between ends (pair_value kind (p.values v) (p.values w)))
kind_cut A B C Minus v w ends h k = minus_cut A B C v w ends h k
kind_cut A B C Plus v w ends h k = plus_cut A B C v w ends h k

pub pair_cut : (A B C : Point → Type 0) (pair : Pair) (above below : Form)
    → above ≡ two_form pair.first true pair.second (not (turns pair.kind)) pair.ends.low
    → below ≡ two_form pair.first false pair.second (turns pair.kind) (neg_ℤ pair.ends.high)
    → Cut A B (λ p. form_value p.values above ≤ℤ pos 0) → Cut B C (λ p. form_value p.values below ≤ℤ pos 0) → Cut A C (PairMet pair)
pair_cut A B C pair above below e f h k =
    kind_cut A B C pair.kind pair.first pair.second pair.ends
    (subst (λ (x : Form). Cut A B (λ p. form_value p.values x ≤ℤ pos 0)) e h)
    (subst (λ (x : Form). Cut B C (λ p. form_value p.values x ≤ℤ pos 0)) f k)

-- ---- lists of lines

pub bounds_cut : (A B C : Point → Type 0) (v : ℕ) (x : Ends) (rest : List Ends) → Cut A B (λ p. Between x (p.values v)) → Cut B C (BoundsMet (v + 1) rest) → Cut A C (BoundsMet v (x ∷ rest))
bounds_cut A B C v x rest h k = cut_both h k

pub pairs_cut : (A B C : Point → Type 0) (x : Pair) (rest : List Pair) → Cut A B (PairMet x) → Cut B C (PairsMet rest) → Cut A C (PairsMet (x ∷ rest))
pairs_cut A B C x rest h k = cut_both h k
