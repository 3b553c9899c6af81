-- What is told of each kind of line.
use Rattle.std.proofs.Common.{◌≡◌, ℕ, true, false, Option, Some, None}
use Rattle.std.specs.Prelude.{MatchOption}
use Rattle.wm_interval.specs.declared.Interval.{Interval}
use Rattle.wm_interval.specs.Holds.{IsHullOf}
use Rattle.wm_arrays.specs.declared.summary.Summary.{Summary}
use Rattle.wm_arrays.specs.declared.summary.Summary.TheVariants.{Empty, Range}
use Rattle.wm_cert.specs.declared.gap.Line.TheVariants.{Bound, Minus, Plus, Array}
use Rattle.wm_domain.specs.Points.{Point}
use Rattle.wm_domain.specs.States.{IsBare}
use Rattle.wm_domain.specs.Changes.{IsValueOf, IsFormValue}
use Rattle.wm_gaps.specs.Passed.{pair_form, passed_on, cells_in}
use Rattle.wm_gaps.specs.First.{IsThe, AreHeld, IsAnswer}
use Rattle.wm_gaps.proofs.Firsts.{on_line, no_number}
use Rattle.wm_gaps.proofs.Passing.{Cells, told_value, told_form, told_cells, cells_hull}

pub no_value : (Has Allowed : Point → Type 0) (v : ℕ) → IsBare Has → AreHeld (IsThe (Bound v)) Has Allowed
no_value Has Allowed v bare = no_number Has Allowed (Bound v) (λ z x. bare x.x x.is)

pub variable_answer : (Has Allowed : Point → Type 0) (v : ℕ) (r : Interval) (a : Option Interval) → IsHullOf (IsValueOf Has v) r → MatchOption a (IsBare Allowed) (λ i. IsHullOf (IsValueOf Allowed v) i) → IsAnswer (IsThe (Bound v)) Has Allowed (passed_on (Bound v) r a)
variable_answer Has Allowed v r a h k = on_line Has Allowed (Bound v) r a h (told_value Allowed v a k)

pub no_difference : (Has Allowed : Point → Type 0) (i j : ℕ) → IsBare Has → AreHeld (IsThe (Minus i j)) Has Allowed
no_difference Has Allowed i j bare = no_number Has Allowed (Minus i j) (λ z x. bare x.x x.is)

pub difference_answer : (Has Allowed : Point → Type 0) (i j : ℕ) (r : Interval) (a : Option Interval) → IsHullOf (IsFormValue Has (pair_form i j true)) r → MatchOption a (IsBare Allowed) (λ b. IsHullOf (IsFormValue Allowed (pair_form i j true)) b) → IsAnswer (IsThe (Minus i j)) Has Allowed (passed_on (Minus i j) r a)
difference_answer Has Allowed i j r a h k = on_line Has Allowed (Minus i j) r a h (told_form Allowed (pair_form i j true) a k)

pub no_sum : (Has Allowed : Point → Type 0) (i j : ℕ) → IsBare Has → AreHeld (IsThe (Plus i j)) Has Allowed
no_sum Has Allowed i j bare = no_number Has Allowed (Plus i j) (λ z x. bare x.x x.is)

pub sum_answer : (Has Allowed : Point → Type 0) (i j : ℕ) (r : Interval) (a : Option Interval) → IsHullOf (IsFormValue Has (pair_form i j false)) r → MatchOption a (IsBare Allowed) (λ b. IsHullOf (IsFormValue Allowed (pair_form i j false)) b) → IsAnswer (IsThe (Plus i j)) Has Allowed (passed_on (Plus i j) r a)
sum_answer Has Allowed i j r a h k = on_line Has Allowed (Plus i j) r a h (told_form Allowed (pair_form i j false) a k)

-- no set cell, where no interval is told
pub no_cell : (Has Allowed : Point → Type 0) (a : ℕ) (s : Option Summary) → Cells Has a s → cells_in s ≡ None → AreHeld (IsThe (Array a)) Has Allowed
no_cell Has Allowed a None h e = no_number Has Allowed (Array a) (λ z x. h x.x x.is)
no_cell Has Allowed a (Some Empty) h e = no_number Has Allowed (Array a) h
no_cell Has Allowed a (Some (Range r)) h e = absurd (no_some e)
  where
    no_some : ◌≡◌ {A = Option Interval} (Some r) None → ⊥
    no_some e = cc

pub array_answer : (Has Allowed : Point → Type 0) (a : ℕ) (r : Interval) (s t : Option Summary) → Cells Has a s → Cells Allowed a t → cells_in s ≡ Some r → IsAnswer (IsThe (Array a)) Has Allowed (passed_on (Array a) r (cells_in t))
array_answer Has Allowed a r s t h k e = on_line Has Allowed (Array a) r (cells_in t) (cells_hull Has a s r h e) (told_cells Allowed a t k)
