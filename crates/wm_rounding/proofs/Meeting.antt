-- Bounds of a grid around the values of a form.
use Rattle.std.proofs.Common.{refl, subst, ℤ, ◌≤ℤ◌, List, Option, Some, None}
use Rattle.std.specs.Prelude.{MatchOption}
use Rattle.std.specs.List.{Contains}
use Rattle.wm_numbers.proofs.Order.{le_trans}
use Rattle.wm_numbers.specs.Extremes.{LeastOf, GreatestOf}
use Rattle.wm_interval.specs.declared.Interval.{Interval}
use Rattle.wm_interval.specs.Holds.{IsHullOf}
use Rattle.wm_domain.specs.Points.{Point}
use Rattle.wm_domain.specs.Forms.{form_value}
use Rattle.wm_domain.specs.Changes.{IsFormValue}
use Rattle.wm_domain.specs.declared.form.Form.{Form}
use Rattle.wm_grid.specs.Grid.{IsAtOrAbove, IsAtOrBelow}
use Rattle.wm_rounding.specs.declared.ends.Bounds.{Bounds}
use Rattle.wm_rounding.specs.Bounding.{AreAround, IsAbove, IsBelow}
use Rattle.wm_rounding.specs.Rounding.{MeetsForm}
use Rattle.wm_rounding.specs.Cuts.{Cut}
use Rattle.wm_rounding.proofs.Cutting.{cut_as, cut_both}

module _ (numbers : List ℤ) (Has : Point → Type 0) (f : Form) where
  -- a number that is at most all values is at most the least
  low_of : (low z : ℤ) → LeastOf (IsFormValue Has f) low → ((q : Point) → Has q → z ≤ℤ form_value q.values f) → z ≤ℤ low
  low_of low z h k = subst (λ (x : ℤ). z ≤ℤ x) h.attained.gives (k h.attained.x h.attained.is)

  high_of : (high z : ℤ) → GreatestOf (IsFormValue Has f) high → ((q : Point) → Has q → form_value q.values f ≤ℤ z) → high ≤ℤ z
  high_of high z h k = subst (λ (x : ℤ). x ≤ℤ z) h.attained.gives (k h.attained.x h.attained.is)

  -- a value is at least the least
  from_low : (low : ℤ) (q : Point) → LeastOf (IsFormValue Has f) low → Has q → low ≤ℤ form_value q.values f
  from_low low q h i = h.least (form_value q.values f) (record { x = q; is = i; gives = refl })

  to_high : (high : ℤ) (q : Point) → GreatestOf (IsFormValue Has f) high → Has q → form_value q.values f ≤ℤ high
  to_high high q h i = h.greatest (form_value q.values f) (record { x = q; is = i; gives = refl })

  above_meets : (low : ℤ) (b : Option ℤ) (z v : ℤ) → LeastOf (IsFormValue Has f) low → MatchOption b ((y : ℤ) → IsAtOrBelow numbers low y → ⊥) (λ y. GreatestOf (IsAtOrBelow numbers low) y)
      → Contains numbers z → ((q : Point) → Has q → z ≤ℤ form_value q.values f) → IsAbove b v → z ≤ℤ v
  above_meets low None z v h m c k i = absurd (m z (record { is_one = c; below = low_of low z h k }))
  above_meets low (Some l) z v h m c k i = le_trans (m.greatest z (record { is_one = c; below = low_of low z h k })) i

  below_meets : (high : ℤ) (b : Option ℤ) (z v : ℤ) → GreatestOf (IsFormValue Has f) high → MatchOption b ((y : ℤ) → IsAtOrAbove numbers high y → ⊥) (λ y. LeastOf (IsAtOrAbove numbers high) y)
      → Contains numbers z → ((q : Point) → Has q → form_value q.values f ≤ℤ z) → IsBelow b v → v ≤ℤ z
  below_meets high None z v h m c k i = absurd (m z (record { is_one = c; above = high_of high z h k }))
  below_meets high (Some l) z v h m c k i = le_trans i (m.least z (record { is_one = c; above = high_of high z h k }))

  meets_above : (low : ℤ) (b : Option ℤ) (p : Point) → LeastOf (IsFormValue Has f) low → MatchOption b ((y : ℤ) → IsAtOrBelow numbers low y → ⊥) (λ y. GreatestOf (IsAtOrBelow numbers low) y)
      → MeetsForm numbers Has f p → IsAbove b (form_value p.values f)
  meets_above low None p h m i = tt
  meets_above low (Some l) p h m i = i.above l m.attained.is_one (λ q j. le_trans m.attained.below (from_low low q h j))

  meets_below : (high : ℤ) (b : Option ℤ) (p : Point) → GreatestOf (IsFormValue Has f) high → MatchOption b ((y : ℤ) → IsAtOrAbove numbers high y → ⊥) (λ y. LeastOf (IsAtOrAbove numbers high) y)
      → MeetsForm numbers Has f p → IsBelow b (form_value p.values f)
  meets_below high None p h m i = tt
  meets_below high (Some l) p h m i = i.below l m.attained.is_one (λ q j. le_trans (to_high high q h j) m.attained.above)

  pub form_cut : (A B C : Point → Type 0) (r : Interval) (ends : Bounds) → IsHullOf (IsFormValue Has f) r → AreAround numbers r ends
      → Cut A B (λ p. IsAbove ends.low (form_value p.values f)) → Cut B C (λ p. IsBelow ends.high (form_value p.values f)) → Cut A C (MeetsForm numbers Has f)
  form_cut A B C r ends hull a h k =
      cut_as
      (λ p i. record {
        above = λ z c j. above_meets r.low ends.low z (form_value p.values f) hull.low_is a.low c j i.0;
        below = λ z c j. below_meets r.high ends.high z (form_value p.values f) hull.high_is a.high c j i.1;
      })
      (λ p i. (meets_above r.low ends.low p hull.low_is a.low i, meets_below r.high ends.high p hull.high_is a.high i))
      (cut_both h k)
