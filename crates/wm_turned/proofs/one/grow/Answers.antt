use Rattle.std.proofs.Common.{◌≡◌, ◌≤◌, ◌<◌, ℕ, ℤ, pos, false, length, subst, sym, ◌∙◌, w64, rules}
use Rattle.std.specs.Prelude.{FitsSigned}
use Rattle.std.proofs.lemmas.Int.{to_z-of_z}
use Rattle.wm_domain.specs.declared.shape.Shape.{Shape}
use Rattle.wm_domain.specs.States.{count_of, InShape, IsLeast}
use Rattle.wm_domain.specs.Points.{Point}
use Rattle.wm_domain.specs.Changes.{Assigned}
use Rattle.wm_carry.proofs.Reaching.{least_as}
use Rattle.wm_tested.specs.Likes.{Below}
use Rattle.wm_turned.specs.Turning.{Whole}
use Rattle.wm_turned.proofs.Growing.{keeps_whole}
use Rattle.wm_turned.proofs.Leasts.{bounded_one, whole_from}
use Rattle.wm_turned.proofs.Undoing.{stepped}
use Rattle.wm_turned.proofs.one.grow.Goals as goal

pub returns-clause-sound : goal.returns-clause-sound
returns-clause-sound g c =
    let high_fits : FitsSigned w64 c.room-high.result = search rules in
    let step_fits : FitsSigned w64 c.whole-step.result = search rules in
    keeps_whole g.D.Domain.holds g.D.Domain.shape_of c.keep_at_most.new.state c.assign_form.new.self (g.D.Domain.holds c.args.state.now) c.args.it
    c.in_ok-counter.counter c.in_ok-more.more c.room-high.result c.whole-step.result
    (λ x h. subst (λ (sh : Shape). InShape sh x) (sym c.in_ok-keep_at_most.ensures.shape) (g.met.D.Domain.inside c.args.state.now x h))
    c.in_ok-counter.ensures c.room-high.ensures (simp to_z-of_z at c.in_ok-more.ensures) c.whole-step.ensures
    (simp to_z-of_z at c.in_ok-keep_at_most.ensures.sound) c.assign_form.ensures.sound

pub returns-clause-least : goal.returns-clause-least
returns-clause-least g c =
    let high_fits : FitsSigned w64 c.room-high.result = search rules in
    let step_fits : FitsSigned w64 c.whole-step.result = search rules in
    let Has = g.D.Domain.holds c.args.state.now in
    let Middle = g.D.Domain.holds c.keep_at_most.new.state in
    let below : (q : Point) → Middle q → Below Has c.in_ok-counter.counter c.room-high.result q =
    (simp to_z-of_z at c.in_ok-keep_at_most.ensures.made) (bounded_one g.D.Domain.PAIRS (length (g.D.Domain.shape_of c.args.state.now).group) c.args.it.variable false (pos 0) c.in_ok-counter.counter c.in_ok-counter.ensures) in
    least_as g.D.Domain.holds g.D.Domain.shape_of c.assign_form.new.self (Assigned Middle c.args.it.variable c.in_ok-more.more) (Whole Has c.args.it)
    (λ p i a. whole_from Has Middle c.args.it c.in_ok-counter.counter c.in_ok-more.more c.room-high.result c.whole-step.result p c.in_ok-counter.ensures c.room-high.ensures (simp to_z-of_z at c.in_ok-more.ensures) c.whole-step.ensures below a)
    c.assign_form.ensures.least

pub returns-clause-made : goal.returns-clause-made
returns-clause-made g c =
    let high_fits : FitsSigned w64 c.room-high.result = search rules in
    let step_fits : FitsSigned w64 c.whole-step.result = search rules in
    let Has = g.D.Domain.holds c.args.state.now in
    let Middle = g.D.Domain.holds c.keep_at_most.new.state in
    let below : (q : Point) → Middle q → Below Has c.in_ok-counter.counter c.room-high.result q =
    (simp to_z-of_z at c.in_ok-keep_at_most.ensures.made) (bounded_one g.D.Domain.PAIRS (length (g.D.Domain.shape_of c.args.state.now).group) c.args.it.variable false (pos 0) c.in_ok-counter.counter c.in_ok-counter.ensures) in
    λ p h. whole_from Has Middle c.args.it c.in_ok-counter.counter c.in_ok-more.more c.room-high.result c.whole-step.result p c.in_ok-counter.ensures c.room-high.ensures (simp to_z-of_z at c.in_ok-more.ensures) c.whole-step.ensures below
    (stepped g.row.D.Denot g.D.Domain.PAIRS g.D.Domain.holds g.D.Domain.shape_of (record { inside = g.met.D.Domain.inside; closed = g.met.D.Domain.closed; cuts = g.met.D.Domain.cuts }) c.keep_at_most.new.state c.assign_form.new.self c.args.it.variable
    (subst (λ (sh : Shape). c.args.it.variable < count_of sh) (sym c.in_ok-keep_at_most.ensures.shape) c.requires.inside) c.assign_form.ensures.shape
    c.in_ok-more.more c.whole-step.result (simp to_z-of_z at c.in_ok-more.ensures) c.assign_form.ensures.sound c.assign_form.ensures.least p h)
