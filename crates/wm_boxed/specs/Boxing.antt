-- The boxes of the arguments of an operator.
use Rattle.std.specs.Prelude.{ℕ, ℤ, List, Option, Some, None}
use Rattle.wm_interval.specs.declared.Interval.{Interval}
use Rattle.wm_interval.specs.Holds.{IsHullOf}
use Rattle.wm_ops.specs.declared.operators.Op.{Op}
use Rattle.wm_ops.specs.Arguments.{FitsAt}
use Rattle.wm_domain.specs.declared.form.Form.{Form}
use Rattle.wm_domain.specs.Points.{Point}
use Rattle.wm_hull.specs.Boxes.{BoxesFit, used_box}
use Rattle.wm_step.specs.Operating.{InArgument, AreBoxes, HasArguments}

-- the box is the range of the argument, in its type; none where there is no number
abbrev pub IsArgumentBox : (Point → Type 0) → Op → ℕ → Form → Option Interval → Type 0
IsArgumentBox Has op k f None = (z : ℤ) → InArgument Has op k f z → ⊥
IsArgumentBox Has op k f (Some r) = IsHullOf (InArgument Has op k f) r × FitsAt op k r.low × FitsAt op k r.high

-- the boxes are those of the arguments, in their types; none where one has no number
abbrev pub AreBoxesOf : (Point → Type 0) → Op → List Form → Option (List Interval) → Type 0
AreBoxesOf Has op args None = HasArguments Has op args → ⊥
AreBoxesOf Has op args (Some boxes) = AreBoxes Has op args boxes × BoxesFit op (used_box op boxes 0) (used_box op boxes 1) (used_box op boxes 2)
