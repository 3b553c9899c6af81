-- What is told of a line that is passed, from the hulls of the numbers on it.
use Rattle.std.proofs.Common.{◌≡◌, ◌≢◌, ℕ, ◌<◌, ℤ, Bool, true, Option, Some, None, subst, arith}
use Rattle.std.proofs.lemmas.Int.{ints}
use Rattle.std.specs.Prelude.{int_lt, ◌<ℤ◌, MatchOption}
use Rattle.wm_interval.specs.declared.Interval.{Interval}
use Rattle.wm_interval.specs.Holds.{IsHullOf}
use Rattle.wm_arrays.specs.declared.summary.Summary.{Summary}
use Rattle.wm_arrays.specs.declared.summary.Summary.TheVariants.{Empty, Range}
use Rattle.wm_arrays.specs.Meaning.{IsLeastFor}
use Rattle.wm_cert.specs.declared.gap.Line.TheVariants as line
use Rattle.wm_domain.specs.declared.form.Form.{Form}
use Rattle.wm_domain.specs.Points.{Point}
use Rattle.wm_domain.specs.Forms.{IsForm}
use Rattle.wm_domain.specs.States.{IsBare}
use Rattle.wm_domain.specs.Changes.{IsValueOf, IsFormValue, IsCellOf}
use Rattle.wm_gaps.specs.Passed.{pair_form, IsOn, cells_in}

pub below : (a b : ℤ) → int_lt a b ≡ true → a <ℤ b
below a b e = omega (arith, ints)

-- the numbers on a line, as far as they are told
abbrev pub Told : (ℤ → Type 0) → Option Interval → Type 0
Told Is a = MatchOption a ((z : ℤ) → Is z → ⊥) (λ i. IsHullOf Is i)

pub told_value : (Has : Point → Type 0) (v : ℕ) (a : Option Interval) → MatchOption a (IsBare Has) (λ i. IsHullOf (IsValueOf Has v) i) → Told (IsOn Has (line.Bound v)) a
told_value Has v None k = λ z x. k x.x x.is
told_value Has v (Some i) k = k

pub told_form : (Has : Point → Type 0) (f : Form) (a : Option Interval) → MatchOption a (IsBare Has) (λ i. IsHullOf (IsFormValue Has f) i) → Told (IsFormValue Has f) a
told_form Has f None k = λ z x. k x.x x.is
told_form Has f (Some i) k = k

-- what is told of the cells of an array
abbrev pub Cells : (Point → Type 0) → ℕ → Option Summary → Type 0
Cells Has a s = MatchOption s (IsBare Has) (λ s. IsLeastFor (IsCellOf Has a) s)

pub told_cells : (Has : Point → Type 0) (a : ℕ) (s : Option Summary) → Cells Has a s → Told (IsCellOf Has a) (cells_in s)
told_cells Has a None k = λ z x. k x.x x.is
told_cells Has a (Some Empty) k = k
told_cells Has a (Some (Range i)) k = k

pub cells_hull : (Has : Point → Type 0) (a : ℕ) (s : Option Summary) (r : Interval) → Cells Has a s → cells_in s ≡ Some r → IsHullOf (IsCellOf Has a) r
cells_hull Has a None r k e = absurd (no_some e)
  where
    no_some : ◌≡◌ {A = Option Interval} None (Some r) → ⊥
    no_some e = cc
cells_hull Has a (Some Empty) r k e = absurd (no_some e)
  where
    no_some : ◌≡◌ {A = Option Interval} None (Some r) → ⊥
    no_some e = cc
cells_hull Has a (Some (Range i)) r k e = subst (IsHullOf (IsCellOf Has a)) (same e) k
  where
    same : Some i ≡ Some r → i ≡ r
    same e = cc

pub is_pair : (n i j : ℕ) (negative : Bool) → i < n → j < n → i ≢ j → IsForm n (pair_form i j negative)
is_pair n i j negative h k d = record { terms = (h, k, d); small = search arith }
