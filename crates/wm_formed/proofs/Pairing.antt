-- Ranges that are cut to small ones.
use Rattle.std.proofs.Common.{◌≡◌, ℤ, pos, negsuc, ◌-ℤ◌, ◌≤ℤ◌, ◌<◌, ◌^◌, unsigned_abs, List, [], ◌∷◌, length, Some, refl, sym, ◌∙◌, ap, subst, arith}
use Rattle.std.proofs.lemmas.Int.{ints}
use Rattle.wm_numbers.specs.Within.{Within, IsWord32}
use Rattle.wm_numbers.proofs.Order.{le_refl}
use Rattle.wm_interval.specs.declared.Interval.{Interval}
use Rattle.wm_interval.specs.Holds.{Holds}
use Rattle.wm_domain.specs.declared.form.Form.{Form}
use Rattle.wm_domain.specs.declared.form.Term.{Term}
use Rattle.wm_domain.specs.Forms.{form_value}
use Rattle.wm_domain.specs.Points.{Point}
use Rattle.wm_domain.specs.States.{IsSized}
use Rattle.wm_assign.specs.Giving.{IsGiven, IsGivenBy}
use Rattle.wm_given.specs.Parts.{IsCut}

pub word_in : (all : Interval) (z : ℤ) → all.low ≡ negsuc 2147483647 → all.high ≡ pos 2147483647 → IsWord32 z → Holds all z
word_in all z el eh h = record { above = omega (arith, ints, el, h.above); below = omega (arith, ints, eh, h.below) }

-- the difference of two numbers of 32 bits
pub difference_in : (all : Interval) (z w : ℤ) → all.low ≡ negsuc 4294967294 → all.high ≡ pos 4294967295 → IsWord32 w → IsWord32 z → Holds all (z -ℤ w)
difference_in all z w el eh h k = record {
  above = omega (arith, ints, el, h.above, h.below, k.above, k.below);
  below = omega (arith, ints, eh, h.above, h.below, k.above, k.below);
}

small : (all : Interval) (z : ℤ) → negsuc 4294967294 ≤ℤ all.low → all.high ≤ℤ pos 4294967295 → Holds all z → unsigned_abs z < 2 ^ 50
small all z el eh h = omega (arith, ints, el, eh, h.above, h.below)

pub cut_sized : (Has : Point → Type 0) (f : Form) (all r : Interval) → negsuc 4294967294 ≤ℤ all.low → all.high ≤ℤ pos 4294967295 → IsCut Has f all (Some r) → IsSized r
cut_sized Has f all r el eh cut = record {
  low_size = small all r.low el eh ((cut r.low).0 (record { above = le_refl r.low; below = r.ordered })).1;
  high_size = small all r.high el eh ((cut r.high).0 (record { above = r.ordered; below = le_refl r.high })).1;
}

pub words_low : (all : Interval) → all.low ≡ negsuc 2147483647 → negsuc 4294967294 ≤ℤ all.low
words_low all e = omega (arith, ints, e)

pub words_high : (all : Interval) → all.high ≡ pos 2147483647 → all.high ≤ℤ pos 4294967295
words_high all e = omega (arith, ints, e)

pub differences_low : (all : Interval) → all.low ≡ negsuc 4294967294 → negsuc 4294967294 ≤ℤ all.low
differences_low all e = omega (arith, ints, e)

pub differences_high : (all : Interval) → all.high ≡ pos 4294967295 → all.high ≤ℤ pos 4294967295
differences_high all e = omega (arith, ints, e)

-- ---- forms of at most one term

no_terms : (ts : List Term) → length ts ≡ 0 → ts ≡ []
no_terms [] h = refl
no_terms (t ∷ rest) h = absurd (omega arith)

pub given_none : (Has : Point → Type 0) (f : Form) (was : Point) (z : ℤ) → length f.terms ≡ 0 → z ≡ form_value was.values f → IsGiven Has f was z
given_none Has f was z e h = subst (λ (ts : List Term). IsGivenBy Has f ts was z) (sym (no_terms f.terms e)) h

pub given_one : (Has : Point → Type 0) (f : Form) (t : Term) (rest : List Term) (was : Point) (z : ℤ) → f.terms ≡ t ∷ rest → length rest ≡ 0 → z ≡ form_value was.values f → IsGiven Has f was z
given_one Has f t rest was z e n h = subst (λ (ts : List Term). IsGivenBy Has f ts was z) (sym (e ∙ ap (λ (xs : List Term). t ∷ xs) (no_terms rest n))) h
