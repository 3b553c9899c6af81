use Rattle.std.proofs.Common.{◌<◌, ℤ, sym, subst, ◌∙◌}
use Rattle.std.specs.Prelude.{◌-ℤ◌}
use Rattle.wm_interval.specs.Holds.{Holds}
use Rattle.wm_domain.specs.Changes.{Near}
use Rattle.wm_assign.proofs.Setting.{keeps_old, keeps_new, near_old, near_new}
use Rattle.wm_assign.proofs.Leasts.{near_old_least, near_new_least}
use Rattle.wm_domain.specs.declared.shape.Shape.{Shape}
use Rattle.wm_domain.specs.Points.{Point}
use Rattle.wm_domain.specs.States.{count_of, InShape}
use Rattle.wm_carry.proofs.Ranks.{origin_below}
use Rattle.wm_assign.proofs.numbers.near.Goals as goal

pub assign_near-requires-clause-inside : goal.assign_near-requires-clause-inside
assign_near-requires-clause-inside g c =
    subst (λ (sh : Shape). c.in-Some.old < count_of sh) (sym (c.in_ok-state-in-Some.ensures.shape ∙ c.requires.shape))
    (origin_below c.args.way.now.source.now c.args.way.now.target.now c.args.v c.in-Some.old (sym c.in-Some.ensures))

pub returns-in_ok-moved-in-Some-clause-sound : goal.returns-in_ok-moved-in-Some-clause-sound
returns-in_ok-moved-in-Some-clause-sound g c =
    let s = c.args.way.now.source.now in
    let t = c.args.way.now.target.now in
    let Has = g.D.Domain.holds c.args.at.now in
    let Copy = g.D.Domain.holds c.in_ok-state-in-Some.state in
    keeps_old g.D.Domain.holds g.D.Domain.shape_of c.assign_near.new.self c.in_ok-moved-in-Some.moved s t Has c.args.v c.in-Some.old
    (λ (was : Point) (z : ℤ). Holds c.args.r z × Holds c.args.d (z -ℤ was.values c.args.from))
    (Near Copy c.in-Some.old c.args.from c.args.d c.args.r)
    c.requires.way
    (λ x h. subst (λ (sh : Shape). InShape sh x) c.requires.shape (g.met.D.Domain.inside c.args.at.now x h))
    c.requires.inside (sym c.in-Some.ensures)
    (c.assign_near.ensures.shape ∙ c.in_ok-state-in-Some.ensures.shape ∙ c.requires.shape)
    c.in_ok-moved-in-Some.ensures.shape
    c.assign_near.ensures.sound c.in_ok-moved-in-Some.ensures.sound
    (near_old Has Copy c.in-Some.old c.args.from c.args.d c.args.r c.in_ok-state-in-Some.ensures.same)

pub returns-in_ok-state-in-None-clause-sound : goal.returns-in_ok-state-in-None-clause-sound
returns-in_ok-state-in-None-clause-sound g c =
    let s = c.args.way.now.source.now in
    let t = c.args.way.now.target.now in
    let Has = g.D.Domain.holds c.args.at.now in
    let Mid = g.D.Domain.holds c.in_ok-state-in-None.state in
    keeps_new g.D.Domain.holds g.D.Domain.shape_of c.in_ok-state-in-None.state c.assign_near-in-None.new.self s t Has c.args.v
    (λ (was : Point) (z : ℤ). Holds c.args.r z × Holds c.args.d (z -ℤ was.values c.args.from))
    (Near Mid c.args.v c.args.from c.args.d c.args.r)
    (sym c.in-None.ensures)
    c.in_ok-state-in-None.ensures.shape
    (c.assign_near-in-None.ensures.shape ∙ c.in_ok-state-in-None.ensures.shape)
    c.in_ok-state-in-None.ensures.sound c.assign_near-in-None.ensures.sound
    (near_new s t Mid c.args.v c.args.from c.args.d c.args.r (sym c.in-None.ensures) c.requires.seen)

pub returns-in_ok-moved-in-Some-clause-least : goal.returns-in_ok-moved-in-Some-clause-least
returns-in_ok-moved-in-Some-clause-least g c =
    let way = c.args.way.now in
    near_old_least g.row.D.Denot g.D.Domain.PAIRS g.D.Domain.holds g.D.Domain.shape_of (record { inside = g.met.D.Domain.inside; closed = g.met.D.Domain.closed; cuts = g.met.D.Domain.cuts }) way.source.now way.target.now c.requires.way c.args.at.now c.assign_near.new.self c.in_ok-moved-in-Some.moved
    c.requires.shape c.in_ok-moved-in-Some.ensures.shape (c.assign_near.ensures.shape ∙ c.in_ok-state-in-Some.ensures.shape ∙ c.requires.shape) c.args.v c.in-Some.old c.requires.inside (sym c.in-Some.ensures)
    (g.D.Domain.holds c.in_ok-state-in-Some.state) c.args.from c.args.d c.args.r c.in_ok-state-in-Some.ensures.same c.assign_near.ensures.sound c.assign_near.ensures.least c.in_ok-moved-in-Some.ensures.least

pub returns-in_ok-state-in-None-clause-least : goal.returns-in_ok-state-in-None-clause-least
returns-in_ok-state-in-None-clause-least g c =
    let way = c.args.way.now in
    near_new_least g.row.D.Denot g.D.Domain.PAIRS g.D.Domain.holds g.D.Domain.shape_of (record { inside = g.met.D.Domain.inside; closed = g.met.D.Domain.closed; cuts = g.met.D.Domain.cuts }) way.source.now way.target.now c.requires.way c.args.at.now c.in_ok-state-in-None.state c.assign_near-in-None.new.self
    c.requires.shape (c.assign_near-in-None.ensures.shape ∙ c.in_ok-state-in-None.ensures.shape) c.in_ok-state-in-None.ensures.shape c.in_ok-state-in-None.ensures.sound c.in_ok-state-in-None.ensures.least c.args.v
    c.args.from c.args.d c.args.r (sym c.in-None.ensures) c.requires.seen c.assign_near-in-None.ensures.least
