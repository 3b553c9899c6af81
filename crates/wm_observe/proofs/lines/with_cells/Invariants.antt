-- What is left.
use Rattle.std.proofs.Common.{◌≡◌, drop}
use Rattle.wm_arrays.specs.Ends.{ends_of}
use Rattle.wm_observe.specs.Lines.{with_cells}
use Rattle.wm_observe.proofs.lines.with_cells.Given as goal

abbrev pub invariant-loop-cell : goal.invariant-loop-cell
invariant-loop-cell l = with_cells (ends_of l.found) (drop l.cell-index l.cells) ≡ with_cells (ends_of l.initial.found) l.cells
