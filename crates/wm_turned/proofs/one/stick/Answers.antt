use Rattle.std.proofs.Common.{◌≡◌, ◌≤◌, ◌<◌, ℕ, ℤ, pos, false, length, subst, sym, ◌∙◌, w64, rules}
use Rattle.std.specs.Prelude.{FitsSigned}
use Rattle.std.proofs.lemmas.Int.{to_z-of_z}
use Rattle.wm_domain.specs.declared.shape.Shape.{Shape}
use Rattle.wm_domain.specs.States.{count_of, InShape, IsLeast}
use Rattle.wm_domain.specs.Points.{Point}
use Rattle.wm_domain.specs.Changes.{Freed}
use Rattle.wm_carry.proofs.Reaching.{least_as}
use Rattle.wm_tested.specs.Likes.{Above}
use Rattle.wm_turned.specs.Turning.{Stuck}
use Rattle.wm_turned.proofs.Growing.{keeps_stuck}
use Rattle.wm_turned.proofs.Leasts.{bounded_one, stuck_from}
use Rattle.wm_turned.proofs.Undoing.{freed_not}
use Rattle.wm_turned.proofs.one.stick.Goals as goal

pub returns-clause-sound : goal.returns-clause-sound
returns-clause-sound g c =
    let low_fits : FitsSigned w64 c.brim-low.result = search rules in
    keeps_stuck g.D.Domain.holds g.D.Domain.shape_of c.keep_at_least.new.state c.assign_range.new.self (g.D.Domain.holds c.args.state.now) c.args.it
    c.in_ok-counter.counter c.brim-low.result c.new-all.result
    (λ x h. subst (λ (sh : Shape). InShape sh x) (sym c.in_ok-keep_at_least.ensures.shape) (g.met.D.Domain.inside c.args.state.now x h))
    c.in_ok-counter.ensures c.brim-low.ensures c.new-all.ensures.low c.new-all.ensures.high
    (simp to_z-of_z at c.in_ok-keep_at_least.ensures.sound) c.assign_range.ensures.sound

pub returns-clause-least : goal.returns-clause-least
returns-clause-least g c =
    let low_fits : FitsSigned w64 c.brim-low.result = search rules in
    let Has = g.D.Domain.holds c.args.state.now in
    let Middle = g.D.Domain.holds c.keep_at_least.new.state in
    let above : (q : Point) → Middle q → Above Has c.in_ok-counter.counter c.brim-low.result q =
    (simp to_z-of_z at c.in_ok-keep_at_least.ensures.made) (bounded_one g.D.Domain.PAIRS (length (g.D.Domain.shape_of c.args.state.now).group) c.args.it.variable false (pos 0) c.in_ok-counter.counter c.in_ok-counter.ensures) in
    least_as g.D.Domain.holds g.D.Domain.shape_of c.assign_range.new.self (Freed Middle c.args.it.variable c.new-all.result) (Stuck Has c.args.it)
    (λ p i a. stuck_from Has Middle c.args.it c.in_ok-counter.counter c.brim-low.result c.new-all.result p c.in_ok-counter.ensures c.brim-low.ensures c.new-all.ensures.low c.new-all.ensures.high above a)
    c.assign_range.ensures.least

pub returns-clause-made : goal.returns-clause-made
returns-clause-made g c =
    let low_fits : FitsSigned w64 c.brim-low.result = search rules in
    let Has = g.D.Domain.holds c.args.state.now in
    let Middle = g.D.Domain.holds c.keep_at_least.new.state in
    let above : (q : Point) → Middle q → Above Has c.in_ok-counter.counter c.brim-low.result q =
    (simp to_z-of_z at c.in_ok-keep_at_least.ensures.made) (bounded_one g.D.Domain.PAIRS (length (g.D.Domain.shape_of c.args.state.now).group) c.args.it.variable false (pos 0) c.in_ok-counter.counter c.in_ok-counter.ensures) in
    λ p h never. freed_not g.row.D.Denot g.D.Domain.PAIRS g.D.Domain.holds g.D.Domain.shape_of (record { inside = g.met.D.Domain.inside; closed = g.met.D.Domain.closed; cuts = g.met.D.Domain.cuts }) c.keep_at_least.new.state c.assign_range.new.self c.args.it.variable
    (subst (λ (sh : Shape). c.args.it.variable < count_of sh) (sym c.in_ok-keep_at_least.ensures.shape) c.requires.inside) c.assign_range.ensures.shape
    c.new-all.result c.assign_range.ensures.sound c.assign_range.ensures.least p h
    (λ a. never (stuck_from Has Middle c.args.it c.in_ok-counter.counter c.brim-low.result c.new-all.result p c.in_ok-counter.ensures c.brim-low.ensures c.new-all.ensures.low c.new-all.ensures.high above a))
