-- What summaries allow of the cells that lines allow.
use Rattle.std.proofs.Common.{◌≡◌, ℤ, ◌<ℤ◌, Option, Some, None, arith}
use Rattle.std.proofs.lemmas.Int.{ints}
use Rattle.wm_interval.specs.declared.Interval.{Interval}
use Rattle.wm_domain.specs.Points.{AllowsCell}
use Rattle.wm_arrays.specs.declared.summary.Summary.TheVariants as summaries
use Rattle.wm_cert_text.specs.declared.told.Ends.{Ends}
use Rattle.wm_cert_text.specs.declared.told.Cells.TheVariants as cells
use Rattle.wm_state_of.specs.Meeting.{CellMet}

pub in_order : (i : Interval) (ends : Ends) (c : Option ℤ) → i.low ≡ ends.low → i.high ≡ ends.high → AllowsCell (summaries.Range i) c → CellMet (cells.Range ends) c
in_order i ends None e f h = tt
in_order i ends (Some z) e f h = record { above = omega (arith, ints, e, h.above); below = omega (arith, ints, f, h.below) }

pub of_order : (i : Interval) (ends : Ends) (c : Option ℤ) → i.low ≡ ends.low → i.high ≡ ends.high → CellMet (cells.Range ends) c → AllowsCell (summaries.Range i) c
of_order i ends None e f h = tt
of_order i ends (Some z) e f h = record { above = omega (arith, ints, e, h.above); below = omega (arith, ints, f, h.below) }

pub out_of_order : (ends : Ends) (c : Option ℤ) → ends.high <ℤ ends.low → CellMet (cells.Range ends) c → AllowsCell summaries.Empty c
out_of_order ends None l h = tt
out_of_order ends (Some z) l h = absurd (omega (arith, ints, l, h.above, h.below))

pub nothing_allowed : (ends : Ends) (c : Option ℤ) → AllowsCell summaries.Empty c → CellMet (cells.Range ends) c
nothing_allowed ends None h = tt
nothing_allowed ends (Some z) h = absurd h

pub empty_is : (c : Option ℤ) → AllowsCell summaries.Empty c → CellMet cells.Empty c
empty_is None h = tt
empty_is (Some z) h = h

pub is_empty : (c : Option ℤ) → CellMet cells.Empty c → AllowsCell summaries.Empty c
is_empty None h = tt
is_empty (Some z) h = h
