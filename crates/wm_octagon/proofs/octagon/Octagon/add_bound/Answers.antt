use Rattle.std.proofs.Common.{◌≡◌, ◌∙◌, subst, ap, w64}
use Rattle.std.proofs.lemmas.Int.{to_z-of_z}
use Rattle.wm_octagon.specs.Layout.{opposite}
use Rattle.wm_octagon.specs.View.{IsLeast, WithDifference}
use Rattle.wm_octagon.specs.Sides.{number_of}
use Rattle.wm_octagon.proofs.Octagons.{add-least}
use Rattle.wm_octagon.proofs.octagon.Octagon.add_bound.Goals as goal

pub returns-clause-least : goal.returns-clause-least
returns-clause-least c =
    let k : c.opposite-k.result ≡ opposite (number_of c.args.a) = c.opposite-k.ensures ∙ ap opposite c.place_of.ensures.value in
    let l : c.place_of-l.result ≡ number_of c.args.b = c.place_of-l.ensures.value in
    let z = to_z-of_z w64 c.args.c c.ranges.c in
    add-least c.args.self.now c.keep.new.self c.args.a c.args.b c.args.c
    (subst (λ i. IsLeast c.keep.new.self (WithDifference c.args.self.now i (number_of c.args.b) c.args.c)) k
    (subst (λ j. IsLeast c.keep.new.self (WithDifference c.args.self.now c.opposite-k.result j c.args.c)) l
    (subst (λ d. IsLeast c.keep.new.self (WithDifference c.args.self.now c.opposite-k.result c.place_of-l.result d)) z c.keep.ensures.least)))
