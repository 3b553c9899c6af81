use Rattle.std.proofs.Common.{◌≡◌, subst, w64, rules}
use Rattle.std.specs.Prelude.{FitsSigned, ◌<ℤ◌}
use Rattle.std.proofs.lemmas.Int.{to_z-of_z}
use Rattle.wm_domain.specs.declared.shape.Shape.{Shape}
use Rattle.wm_domain.specs.States.{InShape}
use Rattle.wm_step.specs.Images.{most}
use Rattle.wm_paced.proofs.Pacings.{less_not}
use Rattle.wm_paced.proofs.paces.keep_paced.Goals as goal

pub returns-then-is_most-clause-sound : goal.returns-then-is_most-clause-sound
returns-then-is_most-clause-sound g c =
    let low_fits : FitsSigned w64 c.args.r.low = search rules in
    let above = simp to_z-of_z at c.in_ok-keep_above.ensures.sound in
    record { kept = λ p i h. above.kept p i (record { point = h.point; above = h.above }) }

pub returns-then-is_most-clause-made : goal.returns-then-is_most-clause-made
returns-then-is_most-clause-made g c =
    let low_fits : FitsSigned w64 c.args.r.low = search rules in
    let high_fits : FitsSigned w64 c.args.r.high = search rules in
    let most_is : c.args.r.high ≡ most = simp to_z-of_z at c.is_most.ensures.most c.if-is_most.true in
    let above = simp to_z-of_z at c.in_ok-keep_above.ensures.made in
    λ p h. let a = above p h in record { point = a.point; above = a.above; below = λ lt. absurd (less_not c.args.r.high lt most_is) }

pub returns-clause-sound : goal.returns-clause-sound
returns-clause-sound g c =
    let low_fits : FitsSigned w64 c.args.r.low = search rules in
    let high_fits : FitsSigned w64 c.args.r.high = search rules in
    let less : c.args.r.high <ℤ most = simp to_z-of_z at c.is_most.ensures.less c.if-is_most.false in
    let above = simp to_z-of_z at c.in_ok-keep_above.ensures.sound in
    let below = simp to_z-of_z at c.in_ok-keep_below.ensures.sound in
    record {
      kept = λ p i h. below.kept p i (record {
        point = above.kept p (subst (λ (s : Shape). InShape s p) c.in_ok-keep_below.ensures.shape i) (record { point = h.point; above = h.above });
        below = h.below less;
      });
    }

pub returns-clause-made : goal.returns-clause-made
returns-clause-made g c =
    let low_fits : FitsSigned w64 c.args.r.low = search rules in
    let high_fits : FitsSigned w64 c.args.r.high = search rules in
    let above = simp to_z-of_z at c.in_ok-keep_above.ensures.made in
    let below = simp to_z-of_z at c.in_ok-keep_below.ensures.made in
    λ p h.
    let b = below p h in
    let a = above p b.point in
    record { point = a.point; above = a.above; below = λ lt. b.below }
