use Rattle.std.proofs.Common.{◌≡◌, true, subst, sym}
use Rattle.wm_hull.specs.Boxes.{zero_box}
use Rattle.wm_failing.specs.declared.trial.Trial.TheVariants.{Negates}
use Rattle.wm_sight.specs.Sights.{IsShown}
use Rattle.wm_sight.proofs.Trying.{shown_told}
use Rattle.wm_sight.proofs.trials.negated.Goals as goal

pub returns : goal.returns
returns c =
    subst (λ s. IsShown Negates (c.args.fits ≡ true) c.args.x zero_box zero_box s) (sym c.shown.ensures)
    (shown_told Negates c.args.x zero_box zero_box c.args.fits c.first_failing-values.result c.first_failing-values.ensures.first)
