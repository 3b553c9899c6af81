use Rattle.std.proofs.Common.{◌≡◌, w64, rules, length, ap, ◌∙◌}
use Rattle.std.specs.Prelude.{FitsSigned, ◌<ℤ◌, ◌≤ℤ◌}
use Rattle.std.proofs.lemmas.Int.{to_z-of_z}
use Rattle.wm_domain.specs.declared.shape.Shape.{Shape}
use Rattle.wm_domain.specs.Points.{Point}
use Rattle.wm_domain.specs.States.{count_of}
use Rattle.wm_carry.proofs.Reaching.{bare_least}
use Rattle.wm_tested.specs.Likes.{Between}
use Rattle.wm_tested.proofs.Liking.{keeps_between}
use Rattle.wm_tested.proofs.Betweens.{least_between, made_between, bare_between}
use Rattle.wm_tested.proofs.tests.keep_between.Goals as goal

pub returns-then-is_crossed-clause-sound : goal.returns-then-is_crossed-clause-sound
returns-then-is_crossed-clause-sound g c =
    let low_fits : FitsSigned w64 c.args.low = search rules in
    let high_fits : FitsSigned w64 c.args.high = search rules in
    let crossed : c.args.high <ℤ c.args.low = simp to_z-of_z at c.is_crossed.ensures.crossed c.if-is_crossed.true in
    bare_between g.row.D.Denot g.D.Domain.PAIRS g.D.Domain.holds g.D.Domain.shape_of (record { inside = g.met.D.Domain.inside; closed = g.met.D.Domain.closed; cuts = g.met.D.Domain.cuts })
    (g.D.Domain.holds c.args.state.now) c.clear.new.self c.args.f.now c.args.low c.args.high crossed

pub returns-then-is_crossed-clause-least : goal.returns-then-is_crossed-clause-least
returns-then-is_crossed-clause-least g c = bare_least g.D.Domain.holds g.D.Domain.shape_of c.clear.new.self (Between (g.D.Domain.holds c.args.state.now) c.args.f.now c.args.low c.args.high) c.clear.ensures.least

pub returns-then-is_crossed-clause-made : goal.returns-then-is_crossed-clause-made
returns-then-is_crossed-clause-made g c = λ bounded p h. absurd (c.clear.ensures.least p h)

pub returns-then-is_crossed-clause-fewer : goal.returns-then-is_crossed-clause-fewer
returns-then-is_crossed-clause-fewer g c = λ p h. absurd (c.clear.ensures.least p h)

pub returns-clause-sound : goal.returns-clause-sound
returns-clause-sound g c =
    let low_fits : FitsSigned w64 c.args.low = search rules in
    let high_fits : FitsSigned w64 c.args.high = search rules in
    keeps_between g.D.Domain.holds g.D.Domain.shape_of c.keep_at_least.new.state c.keep_at_most.new.state (g.D.Domain.holds c.args.state.now) c.args.f.now c.args.low c.args.high c.in_ok-keep_at_most.ensures.shape
    (simp to_z-of_z at c.in_ok-keep_at_least.ensures.sound) (simp to_z-of_z at c.in_ok-keep_at_most.ensures.sound)

pub returns-clause-least : goal.returns-clause-least
returns-clause-least g c =
    let low_fits : FitsSigned w64 c.args.low = search rules in
    let high_fits : FitsSigned w64 c.args.high = search rules in
    let ordered : c.args.low ≤ℤ c.args.high = simp to_z-of_z at c.is_crossed.ensures.ordered c.if-is_crossed.false in
    least_between g.row.D.Denot g.D.Domain.PAIRS g.D.Domain.holds g.D.Domain.shape_of (record { inside = g.met.D.Domain.inside; closed = g.met.D.Domain.closed; cuts = g.met.D.Domain.cuts })
    c.args.state.now c.keep_at_least.new.state c.keep_at_most.new.state c.args.f.now c.args.low c.args.high (count_of (g.D.Domain.shape_of c.args.state.now)) c.requires.form.terms ordered
    c.in_ok-keep_at_least.ensures.shape c.in_ok-keep_at_most.ensures.shape c.in_ok-keep_at_least.ensures.fewer
    (simp to_z-of_z at c.in_ok-keep_at_least.ensures.made) (simp to_z-of_z at c.in_ok-keep_at_least.ensures.sound) (simp to_z-of_z at c.in_ok-keep_at_least.ensures.least) (simp to_z-of_z at c.in_ok-keep_at_most.ensures.least)

pub returns-clause-made : goal.returns-clause-made
returns-clause-made g c =
    let low_fits : FitsSigned w64 c.args.low = search rules in
    let high_fits : FitsSigned w64 c.args.high = search rules in
    made_between (g.D.Domain.holds c.args.state.now) (g.D.Domain.holds c.keep_at_least.new.state) (g.D.Domain.holds c.keep_at_most.new.state) g.D.Domain.PAIRS
    (length (g.D.Domain.shape_of c.args.state.now).group) (length (g.D.Domain.shape_of c.keep_at_least.new.state).group) c.args.f.now.terms c.args.f.now c.args.low c.args.high
    (ap (λ (s : Shape). length s.group) c.in_ok-keep_at_least.ensures.shape)
    (simp to_z-of_z at c.in_ok-keep_at_least.ensures.made) (simp to_z-of_z at c.in_ok-keep_at_most.ensures.made)

pub returns-clause-fewer : goal.returns-clause-fewer
returns-clause-fewer g c = λ p h. c.in_ok-keep_at_least.ensures.fewer p (c.in_ok-keep_at_most.ensures.fewer p h)
