use Rattle.std.proofs.Common.{◌≡◌, ◌<◌, List, [], length, sym, subst, ap, ◌∙◌, rules}
use Rattle.wm_domain.specs.Points.{Point}
use Rattle.wm_flow.specs.declared.action.Growth.{Growth}
use Rattle.wm_turned.specs.Turning.{AllGrown}
use Rattle.wm_turned.proofs.Growing.{turn_whole, turn_both}
use Rattle.wm_domain.specs.declared.shape.Shape.{Shape}
use Rattle.wm_domain.specs.States.{count_of}
use Rattle.wm_turned_all.proofs.Leasts.{same_least, whole_to, stuck_to, least_whole, least_both}
use Rattle.wm_turned_all.proofs.Rests.{no_items, rest_inside, rest_shorter}
use Rattle.wm_turned_all.proofs.turns.+turned_from.Goals as goal

pub returns-in_ok-same-in-None-clause-sound : goal.returns-in_ok-same-in-None-clause-sound
returns-in_ok-same-in-None-clause-sound g t c = λ p i a.
    (c.in_ok-same-in-None.ensures.same p).1 (subst (λ (xs : List Growth). AllGrown (g.D.Domain.shape_of c.args.state.now) (g.D.Domain.holds c.args.state.now) xs p) (no_items c.args.growths.now c.in-None.ensures.cases) a)

pub returns-then-not-sticks-clause-sound : goal.returns-then-not-sticks-clause-sound
returns-then-not-sticks-clause-sound g t c =
    turn_whole g.D.Domain.holds g.D.Domain.shape_of (g.D.Domain.shape_of c.args.state.now) (g.D.Domain.holds c.args.state.now) c.in-Some.it.now c.in-Some.rest.now c.args.growths.now
    c.in_ok-moved-in-Some.moved c.grow.new.state c.in_ok-all-in-Some.all c.in-Some.ensures.cases.0
    (c.in_ok-grow-in-Some.ensures.shape ∙ c.in_ok-moved-in-Some.ensures.shape) c.in_ok-moved-in-Some.ensures.same c.in_ok-grow-in-Some.ensures.sound
    (c.may_stick-sticks.ensures.never c.if-not-sticks.true) c.in_ok-all-in-Some.ensures.sound

pub returns-in_ok-others-in-Some-clause-sound : goal.returns-in_ok-others-in-Some-clause-sound
returns-in_ok-others-in-Some-clause-sound g t c =
    turn_both g.D.Domain.holds g.D.Domain.shape_of (g.D.Domain.shape_of c.args.state.now) (g.D.Domain.holds c.args.state.now) c.in-Some.it.now c.in-Some.rest.now c.args.growths.now
    c.in_ok-moved-in-Some.moved c.grow.new.state c.in_ok-all-in-Some.all c.in_ok-held-in-Some.held c.stick.new.state c.in_ok-others-in-Some.others c.join_with.new.self c.in-Some.ensures.cases.0
    (c.in_ok-grow-in-Some.ensures.shape ∙ c.in_ok-moved-in-Some.ensures.shape)
    (c.in_ok-stick-in-Some.ensures.shape ∙ c.in_ok-held-in-Some.ensures.shape)
    (c.join_with.ensures.shape ∙ c.in_ok-all-in-Some.ensures.shape ∙ c.in_ok-grow-in-Some.ensures.shape ∙ c.in_ok-moved-in-Some.ensures.shape)
    c.in_ok-moved-in-Some.ensures.same c.in_ok-held-in-Some.ensures.same c.in_ok-grow-in-Some.ensures.sound c.in_ok-stick-in-Some.ensures.sound
    c.in_ok-all-in-Some.ensures.sound c.in_ok-others-in-Some.ensures.sound c.join_with.ensures.sound

pub turned_from-requires : goal.turned_from-requires
turned_from-requires g t c κs within =
    let shape = c.in_ok-grow-in-Some.ensures.shape ∙ c.in_ok-moved-in-Some.ensures.shape in
    let shorter : length c.in-Some.rest.now < length c.args.growths.now = rest_shorter c.in-Some.it.now c.in-Some.rest.now c.args.growths.now c.in-Some.ensures.cases.0 in
    let inside = rest_inside (count_of (g.D.Domain.shape_of c.args.state.now)) (count_of (g.D.Domain.shape_of c.grow.new.state)) c.in-Some.it.now c.in-Some.rest.now c.args.growths.now c.in-Some.ensures.cases.0 (ap count_of shape) c.requires.inside in
    (search rules, (search rules, inside))

pub turned_from-requires-in-Some : goal.turned_from-requires-in-Some
turned_from-requires-in-Some g t c κs within =
    let shape = c.in_ok-stick-in-Some.ensures.shape ∙ c.in_ok-held-in-Some.ensures.shape in
    let shorter : length c.in-Some.rest.now < length c.args.growths.now = rest_shorter c.in-Some.it.now c.in-Some.rest.now c.args.growths.now c.in-Some.ensures.cases.0 in
    let inside = rest_inside (count_of (g.D.Domain.shape_of c.args.state.now)) (count_of (g.D.Domain.shape_of c.stick.new.state)) c.in-Some.it.now c.in-Some.rest.now c.args.growths.now c.in-Some.ensures.cases.0 (ap count_of shape) c.requires.inside in
    (search rules, (search rules, inside))

pub returns-in_ok-same-in-None-clause-least : goal.returns-in_ok-same-in-None-clause-least
returns-in_ok-same-in-None-clause-least g t c =
    same_least g.row.D.Denot g.D.Domain.PAIRS g.D.Domain.holds g.D.Domain.shape_of (record { inside = g.met.D.Domain.inside; closed = g.met.D.Domain.closed; cuts = g.met.D.Domain.cuts })
    c.args.state.now c.in_ok-same-in-None.same c.args.growths.now (no_items c.args.growths.now c.in-None.ensures.cases) c.in_ok-same-in-None.ensures.same

pub returns-then-not-sticks-clause-least : goal.returns-then-not-sticks-clause-least
returns-then-not-sticks-clause-least g t c =
    let shape = g.D.Domain.shape_of c.args.state.now in
    let Has = g.D.Domain.holds c.args.state.now in
    let it = c.in-Some.it.now in
    let rest = c.in-Some.rest.now in
    let em = c.in_ok-grow-in-Some.ensures.shape ∙ c.in_ok-moved-in-Some.ensures.shape in
    least_whole g.row.D.Denot g.D.Domain.PAIRS g.D.Domain.holds g.D.Domain.shape_of (record { inside = g.met.D.Domain.inside; closed = g.met.D.Domain.closed; cuts = g.met.D.Domain.cuts }) shape Has it rest
    c.grow.new.state c.in_ok-all-in-Some.all c.args.growths.now c.in-Some.ensures.cases.0 em c.in_ok-all-in-Some.ensures.shape
    (whole_to g.row.D.Denot g.D.Domain.PAIRS g.D.Domain.holds g.D.Domain.shape_of (record { inside = g.met.D.Domain.inside; closed = g.met.D.Domain.closed; cuts = g.met.D.Domain.cuts }) shape Has it rest c.in_ok-moved-in-Some.moved c.grow.new.state em c.in_ok-moved-in-Some.ensures.same c.in_ok-grow-in-Some.ensures.made)
    c.in_ok-all-in-Some.ensures.sound c.in_ok-all-in-Some.ensures.least

pub returns-in_ok-others-in-Some-clause-least : goal.returns-in_ok-others-in-Some-clause-least
returns-in_ok-others-in-Some-clause-least g t c =
    let shape = g.D.Domain.shape_of c.args.state.now in
    let Has = g.D.Domain.holds c.args.state.now in
    let it = c.in-Some.it.now in
    let rest = c.in-Some.rest.now in
    let em = c.in_ok-grow-in-Some.ensures.shape ∙ c.in_ok-moved-in-Some.ensures.shape in
    let eh = c.in_ok-stick-in-Some.ensures.shape ∙ c.in_ok-held-in-Some.ensures.shape in
    least_both g.row.D.Denot g.D.Domain.PAIRS g.D.Domain.holds g.D.Domain.shape_of (record { inside = g.met.D.Domain.inside; closed = g.met.D.Domain.closed; cuts = g.met.D.Domain.cuts }) shape Has it rest
    c.grow.new.state c.in_ok-all-in-Some.all c.stick.new.state c.in_ok-others-in-Some.others c.join_with.new.self c.args.growths.now c.in-Some.ensures.cases.0
    em c.in_ok-all-in-Some.ensures.shape eh c.in_ok-others-in-Some.ensures.shape c.join_with.ensures.shape
    (whole_to g.row.D.Denot g.D.Domain.PAIRS g.D.Domain.holds g.D.Domain.shape_of (record { inside = g.met.D.Domain.inside; closed = g.met.D.Domain.closed; cuts = g.met.D.Domain.cuts }) shape Has it rest c.in_ok-moved-in-Some.moved c.grow.new.state em c.in_ok-moved-in-Some.ensures.same c.in_ok-grow-in-Some.ensures.made)
    (stuck_to g.row.D.Denot g.D.Domain.PAIRS g.D.Domain.holds g.D.Domain.shape_of (record { inside = g.met.D.Domain.inside; closed = g.met.D.Domain.closed; cuts = g.met.D.Domain.cuts }) shape Has it rest c.in_ok-held-in-Some.held c.stick.new.state eh c.in_ok-held-in-Some.ensures.same c.in_ok-stick-in-Some.ensures.made)
    c.in_ok-all-in-Some.ensures.sound c.in_ok-all-in-Some.ensures.least c.in_ok-others-in-Some.ensures.sound c.in_ok-others-in-Some.ensures.least c.join_with.ensures.least
