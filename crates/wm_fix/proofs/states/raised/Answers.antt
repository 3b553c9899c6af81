use Rattle.std.proofs.Common.{◌∙◌}
use Rattle.wm_fix.proofs.Raising.{least_on}
use Rattle.wm_fix.proofs.states.raised.Goals as goal

pub returns-clause-least : goal.returns-clause-least
returns-clause-least g c =
    least_on g.D.Domain.holds g.D.Domain.shape_of c.args.grid.now g.D.Domain.PAIRS c.args.shape.now (g.D.Domain.holds c.args.image) (g.D.Domain.holds c.args.state.now) c.join_with.new.self c.rounded.result
    (c.join_with.ensures.shape ∙ c.requires.image) c.join_with.ensures.least c.rounded.ensures.on_grid c.rounded.ensures.least
