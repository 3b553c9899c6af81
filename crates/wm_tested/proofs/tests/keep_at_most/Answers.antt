use Rattle.std.proofs.Common.{w64, rules, ◌≡◌, length}
use Rattle.std.specs.Prelude.{FitsSigned, ◌-ℤ◌}
use Rattle.std.proofs.lemmas.Int.{to_z-of_z}
use Rattle.wm_tested.proofs.Liking.{keeps_below, least_below, made_below}
use Rattle.wm_tested.proofs.tests.keep_at_most.Goals as goal

pub returns-clause-sound : goal.returns-clause-sound
returns-clause-sound g c =
    let fits : FitsSigned w64 c.args.high = search rules in
    let constant_fits : FitsSigned w64 c.args.f.now.constant = search rules in
    let x_fits : FitsSigned w64 c.less-constant.result = search rules in
    let value : c.less-constant.result ≡ c.args.f.now.constant -ℤ c.args.high = simp to_z-of_z at c.less-constant.ensures.value in
    keeps_below g.D.Domain.holds g.D.Domain.shape_of c.keep.new.self (g.D.Domain.holds c.args.state.now) c.args.f.now c.in_ok-over.over c.args.high c.less-constant.result value (simp to_z-of_z at c.in_ok-over.ensures) c.keep.ensures.sound

pub returns-clause-least : goal.returns-clause-least
returns-clause-least g c =
    let fits : FitsSigned w64 c.args.high = search rules in
    let constant_fits : FitsSigned w64 c.args.f.now.constant = search rules in
    let x_fits : FitsSigned w64 c.less-constant.result = search rules in
    let value : c.less-constant.result ≡ c.args.f.now.constant -ℤ c.args.high = simp to_z-of_z at c.less-constant.ensures.value in
    least_below g.D.Domain.holds g.D.Domain.shape_of c.keep.new.self (g.D.Domain.holds c.args.state.now) c.args.f.now c.in_ok-over.over c.args.high c.less-constant.result value (simp to_z-of_z at c.in_ok-over.ensures) c.keep.ensures.least

pub returns-clause-made : goal.returns-clause-made
returns-clause-made g c =
    let fits : FitsSigned w64 c.args.high = search rules in
    let constant_fits : FitsSigned w64 c.args.f.now.constant = search rules in
    let x_fits : FitsSigned w64 c.less-constant.result = search rules in
    let value : c.less-constant.result ≡ c.args.f.now.constant -ℤ c.args.high = simp to_z-of_z at c.less-constant.ensures.value in
    made_below (g.D.Domain.holds c.keep.new.self) (g.D.Domain.holds c.args.state.now) g.D.Domain.PAIRS (length (g.D.Domain.shape_of c.args.state.now).group) c.args.f.now c.in_ok-over.over c.args.high c.less-constant.result value (simp to_z-of_z at c.in_ok-over.ensures) c.keep.ensures.made
