use Rattle.std.proofs.Common.{◌≡◌, true, refl, None}
use Rattle.wm_hull.specs.Boxes.{zero_box}
use Rattle.wm_failing.specs.declared.trial.Trial.TheVariants.{Negates}
use Rattle.wm_sight.specs.Sights.{HasBox, IsOut, word_of}
use Rattle.wm_sight.proofs.Trying.{tried_by, some_of}
use Rattle.wm_sight.proofs.trials.tested_negative.Goals as goal

pub returns-in-Some : goal.returns-in-Some
returns-in-Some g c =
    let Has = g.D.Domain.holds c.args.label.now in
    let a = word_of c.args.operand.now in
    tried_by Negates (c.args.fits ≡ true) Has a None None c.in-Some.x zero_box zero_box c.negated.result
    (record { first = some_of (IsOut Has a) (HasBox Has a) c.in_ok-word.field-0 c.in-Some.x c.in-Some.is c.in_ok-word.ensures.boxed; second = refl; third = refl })
    c.negated.ensures
