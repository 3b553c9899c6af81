use Rattle.std.proofs.Common.{◌∙◌}
use Rattle.wm_operated.proofs.Raising.{keeps_raised, least_raised}
use Rattle.wm_operated.proofs.flags.raise.Goals as goal

pub returns-clause-sound : goal.returns-clause-sound
returns-clause-sound g c =
    keeps_raised g.row.D.Denot g.D.Domain.PAIRS g.D.Domain.holds g.D.Domain.shape_of (record { inside = g.met.D.Domain.inside; closed = g.met.D.Domain.closed; cuts = g.met.D.Domain.cuts }) (λ s p q a h. g.met.D.Domain.alike s p q a h)
    c.args.state.now c.in_ok-risen.risen c.assign_range.new.self c.join_with.new.self c.args.overflow c.new-one.result c.new-one.ensures.low c.new-one.ensures.high
    (c.assign_range.ensures.shape ∙ c.in_ok-risen.ensures.shape) c.join_with.ensures.shape c.in_ok-risen.ensures.same c.assign_range.ensures.sound c.join_with.ensures.sound

pub returns-clause-least : goal.returns-clause-least
returns-clause-least g c =
    least_raised g.row.D.Denot g.D.Domain.PAIRS g.D.Domain.holds g.D.Domain.shape_of (record { inside = g.met.D.Domain.inside; closed = g.met.D.Domain.closed; cuts = g.met.D.Domain.cuts }) (λ s p q a h. g.met.D.Domain.alike s p q a h)
    c.args.state.now c.in_ok-risen.risen c.assign_range.new.self c.join_with.new.self c.args.overflow c.new-one.result c.new-one.ensures.low c.new-one.ensures.high
    (c.assign_range.ensures.shape ∙ c.in_ok-risen.ensures.shape) c.join_with.ensures.shape c.in_ok-risen.ensures.same c.assign_range.ensures.sound c.assign_range.ensures.least c.join_with.ensures.least
