use Rattle.std.proofs.Common.{◌≡◌, ◌-◌}
use Rattle.wm_samples.specs.Cells.{form_seen}
use Rattle.wm_samples.specs.Samples.{read_cells}
use Rattle.wm_samples.proofs.read.read_cells.Given as goal

-- the cells that are left, behind the numbers so far, give what all give
abbrev pub invariant-loop-cell : goal.invariant-loop-cell
invariant-loop-cell l =
    read_cells (l.cells.count - l.cell) l.frame l.input l.cell (form_seen l.cells) (l.values, l.rest) ≡ read_cells l.cells.count l.frame l.input 0 (form_seen l.cells) (l.fn.values, l.bytes)
