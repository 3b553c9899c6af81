use Rattle.std.proofs.Common.{◌≡◌, true, subst, sym, w64, FitsSigned, rules}
use Rattle.std.proofs.lemmas.Int.{to_z-of_z}
use Rattle.wm_hull.specs.Boxes.{zero_box}
use Rattle.wm_failing.specs.declared.trial.Trial.TheVariants.{Stays}
use Rattle.wm_failing.specs.Trials.{IsToldFirst}
use Rattle.wm_sight.specs.Sights.{IsShown}
use Rattle.wm_sight.proofs.Trying.{shown_told}
use Rattle.wm_sight.proofs.trials.ranged.Goals as goal

pub returns : goal.returns
returns c =
    let low_fits : FitsSigned w64 c.args.low = search rules in
    let high_fits : FitsSigned w64 c.args.high = search rules in
    let told : IsToldFirst (Stays c.args.low c.args.high) c.args.x zero_box zero_box c.first_failing-values.result = simp to_z-of_z at c.first_failing-values.ensures.first in
    subst (λ s. IsShown (Stays c.args.low c.args.high) (c.args.fits ≡ true) c.args.x zero_box zero_box s) (sym c.shown.ensures)
    (shown_told (Stays c.args.low c.args.high) c.args.x zero_box zero_box c.args.fits c.first_failing-values.result told)
