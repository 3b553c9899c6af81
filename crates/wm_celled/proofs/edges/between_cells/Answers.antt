use Rattle.std.proofs.Common.{Option, sym, subst}
use Rattle.wm_interval.specs.declared.Interval.{Interval}
use Rattle.wm_celled.specs.Cells.{IsCells}
use Rattle.wm_celled.proofs.Celling.{cells_of}
use Rattle.wm_celled.proofs.edges.between_cells.Goals as goal

pub returns-in-None : goal.returns-in-None
returns-in-None g c = record { cells = λ z b. c.in-None.ensures.exact b.x b.x_is }

pub returns-in-Some : goal.returns-in-Some
returns-in-Some g c =
    let Has = g.D.Domain.holds c.args.at.now in
    record { cells = subst (λ (o : Option Interval). IsCells Has c.args.array o) (sym c.range_in.ensures) (cells_of (g.D.Domain.shape_of c.args.at.now) Has c.args.array c.in-Some.s c.requires.shape c.requires.inside (λ x h. g.met.D.Domain.inside c.args.at.now x h) c.in-Some.ensures.exact) }
