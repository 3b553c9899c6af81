use Rattle.std.proofs.Common.{◌≡◌, true, refl, None, w64, FitsSigned, rules}
use Rattle.std.proofs.lemmas.Int.{to_z-of_z}
use Rattle.wm_hull.specs.Boxes.{zero_box}
use Rattle.wm_failing.specs.declared.trial.Trial.TheVariants.{Stays}
use Rattle.wm_sight.specs.Sights.{IsShown, HasBox, IsOut, tested_of}
use Rattle.wm_sight.proofs.Trying.{tried_by, some_of}
use Rattle.wm_sight.proofs.trials.tested_itself.Goals as goal

pub returns-in-Some : goal.returns-in-Some
returns-in-Some g c =
    let low_fits : FitsSigned w64 c.args.low = search rules in
    let high_fits : FitsSigned w64 c.args.high = search rules in
    let shown : IsShown (Stays c.args.low c.args.high) (c.args.fits ≡ true) c.in-Some.x zero_box zero_box c.ranged.result = simp to_z-of_z at c.ranged.ensures in
    let Has = g.D.Domain.holds c.args.label.now in
    let a = tested_of c.args.kind c.args.operand.now in
    tried_by (Stays c.args.low c.args.high) (c.args.fits ≡ true) Has a None None c.in-Some.x zero_box zero_box c.ranged.result
    (record { first = some_of (IsOut Has a) (HasBox Has a) c.in_ok-tested_box.field-0 c.in-Some.x c.in-Some.is c.in_ok-tested_box.ensures; second = refl; third = refl })
    shown
