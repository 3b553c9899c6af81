-- The first bound that is passed: of a line, and of the lines of two kinds.
use Rattle.std.proofs.Common.{◌≡◌, ℤ, Bool, true, false, cond, Option, Some, None, refl, subst, sym, ◌⊎◌, inl, inr, arith}
use Rattle.std.proofs.lemmas.Int.{ints}
use Rattle.std.specs.Prelude.{int_lt, ◌≤ℤ◌}
use Rattle.wm_interval.specs.declared.Interval.{Interval}
use Rattle.wm_interval.specs.Holds.{IsHullOf}
use Rattle.wm_cert.specs.declared.gap.End2.TheVariants.{Low, High}
use Rattle.wm_cert.specs.declared.gap.Line.{Line}
use Rattle.wm_cert.specs.declared.gap.Line.TheVariants.{Bound, Minus, Plus, Array}
use Rattle.wm_domain.specs.Points.{Point}
use Rattle.wm_gaps.specs.declared.passed.Passed.{Passed}
use Rattle.wm_gaps.specs.Passed.{IsOn, passed_on}
use Rattle.wm_gaps.specs.First.{IsThe, IsBefore, IsBetween, IsHeld, AreHeld, IsFirst, IsAnswer}
use Rattle.wm_gaps.proofs.Passing.{Told, below}

irreflexive : (l : Line) → IsBefore l l → ⊥
irreflexive (Bound v) h = search arith
irreflexive (Minus i j) (inl h) = search arith
irreflexive (Minus i j) (inr h) = search arith
irreflexive (Plus i j) (inl h) = search arith
irreflexive (Plus i j) (inr h) = search arith
irreflexive (Array a) h = search arith

not_before : (l m : Line) → IsThe l m → IsBefore m l → ⊥
not_before l m e h = irreflexive l (subst (λ m. IsBefore m l) e h)

low_not_high : Low ≡ High → ⊥
low_not_high e = cc

not_below : (a b : ℤ) → int_lt a b ≡ false → b ≤ℤ a
not_below a b e = omega (arith, ints)

over : (a b c : ℤ) → a ≤ℤ b → b ≤ℤ c → a ≤ℤ c
over a b c h k = omega (arith, ints)

module _ (Has Allowed : Point → Type 0) (l : Line) (r i : Interval) (h : IsHullOf (IsOn Has l) r) (k : IsHullOf (IsOn Allowed l) i) where
  held : int_lt r.low i.low ≡ false → int_lt i.high r.high ≡ false → AreHeld (IsThe l) Has Allowed
  held a b m e z on = subst (λ m. IsBetween (IsOn Allowed m) z) (sym e) (record {
    low = i.low;
    high = i.high;
    low_is = k.low_is.attained;
    high_is = k.high_is.attained;
    above = over i.low r.low z (not_below r.low i.low a) (h.low_is.least z (here m e z on));
    below = over z r.high i.high (h.high_is.greatest z (here m e z on)) (not_below i.high r.high b);
  })
    where
      here : (m : Line) → IsThe l m → (z : ℤ) → IsOn Has m z → IsOn Has l z
      here m e z on = subst (λ m. IsOn Has m z) e on

  high_first : int_lt r.low i.low ≡ false → int_lt i.high r.high ≡ true → IsFirst (IsThe l) Has Allowed (record { line = l; end = High; have = r.high; allowed = Some i.high })
  high_first a b = record {
    one = refl;
    passed = record { have = h.high_is; allowed = (k.high_is, below i.high r.high b) };
    before = λ m e before. absurd (not_before l m e before);
    low = λ e least is z on. over least i.low z (is.least i.low k.low_is.attained) (over i.low r.low z (not_below r.low i.low a) (h.low_is.least z on));
  }

  low_first : int_lt r.low i.low ≡ true → IsFirst (IsThe l) Has Allowed (record { line = l; end = Low; have = r.low; allowed = Some i.low })
  low_first a = record {
    one = refl;
    passed = record { have = h.low_is; allowed = (k.low_is, below r.low i.low a) };
    before = λ m e before. absurd (not_before l m e before);
    low = λ e least is z on. absurd (low_not_high e);
  }

  by_high : (b : Bool) → int_lt i.high r.high ≡ b → int_lt r.low i.low ≡ false → IsAnswer (IsThe l) Has Allowed (cond b (Some (record { line = l; end = High; have = r.high; allowed = Some i.high })) None)
  by_high true e a = high_first a e
  by_high false e a = held a e

  by_low : (b : Bool) → int_lt r.low i.low ≡ b → IsAnswer (IsThe l) Has Allowed (cond b (Some (record { line = l; end = Low; have = r.low; allowed = Some i.low })) (cond (int_lt i.high r.high) (Some (record { line = l; end = High; have = r.high; allowed = Some i.high })) None))
  by_low true e = low_first e
  by_low false e = by_high (int_lt i.high r.high) refl e

-- a line on which the first state has numbers
pub on_line : (Has Allowed : Point → Type 0) (l : Line) (r : Interval) (a : Option Interval) → IsHullOf (IsOn Has l) r → Told (IsOn Allowed l) a → IsAnswer (IsThe l) Has Allowed (passed_on l r a)
on_line Has Allowed l r None h k = record {
  one = refl;
  passed = record { have = h.low_is; allowed = k };
  before = λ m e before. absurd (not_before l m e before);
  low = λ e least is z on. absurd (low_not_high e);
}
on_line Has Allowed l r (Some i) h k = by_low Has Allowed l r i h k (int_lt r.low i.low) refl

-- a line on which it has none
pub no_number : (Has Allowed : Point → Type 0) (l : Line) → ((z : ℤ) → IsOn Has l z → ⊥) → AreHeld (IsThe l) Has Allowed
no_number Has Allowed l none m e z on = absurd (none z (subst (λ m. IsOn Has m z) e on))

-- ---- lines of two kinds, of which the first were held

module _ (One First Second : Line → Type 0) (Has Allowed : Point → Type 0) (held : AreHeld First Has Allowed) where
  pub found : (it : Passed) → IsFirst Second Has Allowed it → ((m : Line) → Second m → One m) → ((l m : Line) → One l → Second m → IsBefore l m → First l ⊎ Second l) → IsFirst One Has Allowed it
  found it first sub cover = record {
    one = sub it.line first.one;
    passed = first.passed;
    before = λ l one before. by_kind l before (cover l it.line one first.one before);
    low = first.low;
  }
    where
      by_kind : (l : Line) → IsBefore l it.line → First l ⊎ Second l → IsHeld Has Allowed l
      by_kind l before (inl is) = held l is
      by_kind l before (inr is) = first.before l is before

  pub none_found : AreHeld Second Has Allowed → ((l : Line) → One l → First l ⊎ Second l) → AreHeld One Has Allowed
  none_found rest cover l one = by_kind (cover l one)
    where
      by_kind : First l ⊎ Second l → IsHeld Has Allowed l
      by_kind (inl is) = held l is
      by_kind (inr is) = rest l is
