use Rattle.std.proofs.Common.{◌≡◌, true, refl, None}
use Rattle.wm_hull.specs.Boxes.{zero_box}
use Rattle.wm_failing.specs.declared.trial.Trial.TheVariants.{Computes}
use Rattle.wm_sight.specs.Sights.{HasBox, IsOut, word_of}
use Rattle.wm_sight.proofs.Trying.{tried_by, some_of}
use Rattle.wm_sight.proofs.trials.computed.Goals as goal

pub returns-in-Some-2 : goal.returns-in-Some-2
returns-in-Some-2 g c =
    let Has = g.D.Domain.holds c.args.label.now in
    let a = word_of c.args.a.now in
    let b = word_of c.args.b.now in
    tried_by (Computes c.args.mark) (c.args.fits ≡ true) Has a b None c.in-Some.x c.in-Some-2.y zero_box c.plain.result
    (record {
      first = some_of (IsOut Has a) (HasBox Has a) c.in_ok-word.field-0 c.in-Some.x c.in-Some.is c.in_ok-word.ensures.boxed;
      second = some_of (IsOut Has b) (HasBox Has b) c.in_ok-word-in-Some.field-0 c.in-Some-2.y c.in-Some-2.is c.in_ok-word-in-Some.ensures.boxed;
      third = refl;
    })
    c.plain.ensures
