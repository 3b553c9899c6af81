use Rattle.std.proofs.Common.{rules}
use Rattle.wm_ops.specs.Outcomes.{flags_of}
use Rattle.wm_hull.specs.Boxes.{used_box}
use Rattle.wm_hull.specs.Failures.{Somewhere, Nowhere}
use Rattle.wm_step.specs.Operating.{FlagsSomewhere}
use Rattle.wm_operated.proofs.Deciding.{nowhere_else}
use Rattle.wm_operated.proofs.Raising.{keeps_so, least_so, keeps_not, least_not}
use Rattle.wm_operated.proofs.flags.flagged.Goals as goal

pub returns-then-flags-clause-sound : goal.returns-then-flags-clause-sound
returns-then-flags-clause-sound g c =
    keeps_so g.row.D.Denot g.D.Domain.PAIRS g.D.Domain.holds g.D.Domain.shape_of (record { inside = g.met.D.Domain.inside; closed = g.met.D.Domain.closed; cuts = g.met.D.Domain.cuts }) (λ s p q a h. g.met.D.Domain.alike s p q a h)
    c.args.state.now c.raise.new.state (FlagsSomewhere c.args.op c.args.boxes.now) c.args.overflow c.in_ok-raise.ensures.sound

pub returns-then-flags-clause-least : goal.returns-then-flags-clause-least
returns-then-flags-clause-least g c =
    let some : Somewhere (flags_of c.args.op) (used_box c.args.op c.args.boxes.now 0) (used_box c.args.op c.args.boxes.now 1) (used_box c.args.op c.args.boxes.now 2) = search rules in
    least_so g.row.D.Denot g.D.Domain.PAIRS g.D.Domain.holds g.D.Domain.shape_of (record { inside = g.met.D.Domain.inside; closed = g.met.D.Domain.closed; cuts = g.met.D.Domain.cuts }) (λ s p q a h. g.met.D.Domain.alike s p q a h)
    c.args.state.now c.raise.new.state (FlagsSomewhere c.args.op c.args.boxes.now) c.args.overflow some c.in_ok-raise.ensures.least

pub returns-clause-sound : goal.returns-clause-sound
returns-clause-sound g c =
    let x = used_box c.args.op c.args.boxes.now 0 in
    let y = used_box c.args.op c.args.boxes.now 1 in
    let z = used_box c.args.op c.args.boxes.now 2 in
    let none : Nowhere (flags_of c.args.op) x y z = search rules in
    keeps_not g.row.D.Denot g.D.Domain.PAIRS g.D.Domain.holds g.D.Domain.shape_of (record { inside = g.met.D.Domain.inside; closed = g.met.D.Domain.closed; cuts = g.met.D.Domain.cuts }) (λ s p q a h. g.met.D.Domain.alike s p q a h)
    c.args.state.now (FlagsSomewhere c.args.op c.args.boxes.now) c.args.overflow (nowhere_else (flags_of c.args.op) x y z none)

pub returns-clause-least : goal.returns-clause-least
returns-clause-least g c =
    least_not g.row.D.Denot g.D.Domain.PAIRS g.D.Domain.holds g.D.Domain.shape_of (record { inside = g.met.D.Domain.inside; closed = g.met.D.Domain.closed; cuts = g.met.D.Domain.cuts }) (λ s p q a h. g.met.D.Domain.alike s p q a h)
    c.args.state.now (FlagsSomewhere c.args.op c.args.boxes.now) c.args.overflow
