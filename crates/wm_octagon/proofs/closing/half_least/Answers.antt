use Rattle.std.proofs.Common.{◌∙◌, ◌+ℤ◌, subst, sym, ap, w64}
use Rattle.std.proofs.lemmas.Int.{to_z-of_z}
use Rattle.wm_octagon.specs.Medium.{IsMedium}
use Rattle.wm_octagon.specs.Closing.{half_of}
use Rattle.wm_octagon.proofs.Small.{medium_small, fits_sum, half_least_sized, sum_sized}
use mir.Val.{SFits}
use Rattle.wm_octagon.proofs.closing.half_least.Goals as goal

pub returns-clause-value : goal.returns-clause-value
returns-clause-value c =
    let r1 = c.ranges.bound in
    let r2 = c.ranges.to_j in
    let r3 = c.ranges.from_j in
    let r4 = c.ranges.to_i in
    let r5 = c.ranges.from_i in
    let s1 = fits_sum c.args.to_j c.args.from_j c.requires.to_j (medium_small _ c.requires.from_j) in
    let s2 = fits_sum c.args.to_i c.args.from_i c.requires.to_i (medium_small _ c.requires.from_i) in
    let fl : SFits w64 c.least.result = record { sfits = c.least.type_inv } in
    let fh : SFits w64 c.halved.result = record { sfits = c.halved.type_inv } in
    to_z-of_z w64 c.halved.result fh ∙ c.halved.ensures.value ∙ ap half_of (to_z-of_z w64 c.least.result fl ∙ (simp to_z-of_z at c.least.ensures))

pub returns-clause-sized : goal.returns-clause-sized
returns-clause-sized c =
    let r1 = c.ranges.bound in
    let r2 = c.ranges.to_j in
    let r3 = c.ranges.from_j in
    let r4 = c.ranges.to_i in
    let r5 = c.ranges.from_i in
    let s1 = fits_sum c.args.to_j c.args.from_j c.requires.to_j (medium_small _ c.requires.from_j) in
    let s2 = fits_sum c.args.to_i c.args.from_i c.requires.to_i (medium_small _ c.requires.from_i) in
    let fl : SFits w64 c.least.result = record { sfits = c.least.type_inv } in
    let fh : SFits w64 c.halved.result = record { sfits = c.halved.type_inv } in
    let e = to_z-of_z w64 c.halved.result fh ∙ c.halved.ensures.value ∙ ap half_of (to_z-of_z w64 c.least.result fl ∙ (simp to_z-of_z at c.least.ensures)) in
    subst IsMedium (sym e) (half_least_sized c.args.bound (c.args.to_j +ℤ c.args.from_j) (c.args.to_i +ℤ c.args.from_i) c.requires.bound
    (sum_sized _ _ c.requires.to_j (medium_small _ c.requires.from_j)) (sum_sized _ _ c.requires.to_i (medium_small _ c.requires.from_i)))
