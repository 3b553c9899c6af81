use Rattle.wm_rounding.proofs.Cells.{cells_allowed}
use Rattle.wm_rounding.proofs.lines.rounded_cells.Goals as goal

pub returns-in-Some-summary_around : goal.returns-in-Some-summary_around
returns-in-Some-summary_around g c = record {
  on = cells_allowed c.args.grid.now (g.D.Domain.holds c.args.held.now) c.args.a c.in-Some.summary c.in-Some-summary_around.rounded c.in-Some.ensures.exact c.in-Some-summary_around.ensures;
}
