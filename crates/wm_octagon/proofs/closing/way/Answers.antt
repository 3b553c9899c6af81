use Rattle.std.proofs.Common.{◌∙◌, subst, sym, w64}
use Rattle.std.proofs.lemmas.Int.{to_z-of_z}
use Rattle.wm_octagon.specs.Medium.{IsMedium}
use Rattle.wm_octagon.proofs.Small.{medium_small, medium_round, fits_sum, way_sized}
use mir.Val.{SFits}
use Rattle.wm_octagon.proofs.closing.way.Goals as goal

pub returns-clause-value : goal.returns-clause-value
returns-clause-value c =
    let near = c.ranges.near in
    let far = c.ranges.far in
    let here = c.ranges.c in
    let round = c.ranges.around in
    let first = fits_sum c.args.near c.args.c (medium_small _ c.requires.near) (medium_small _ c.requires.c) in
    let second = fits_sum c.args.far c.args.around (medium_small _ c.requires.far) (medium_round _ c.requires.around) in
    let fits : SFits w64 c.lesser.result = record { sfits = c.lesser.type_inv } in
    to_z-of_z w64 c.lesser.result fits ∙ (simp to_z-of_z at c.lesser.ensures)

pub returns-clause-sized : goal.returns-clause-sized
returns-clause-sized c =
    let near = c.ranges.near in
    let far = c.ranges.far in
    let here = c.ranges.c in
    let round = c.ranges.around in
    let first = fits_sum c.args.near c.args.c (medium_small _ c.requires.near) (medium_small _ c.requires.c) in
    let second = fits_sum c.args.far c.args.around (medium_small _ c.requires.far) (medium_round _ c.requires.around) in
    let fits : SFits w64 c.lesser.result = record { sfits = c.lesser.type_inv } in
    let e = to_z-of_z w64 c.lesser.result fits ∙ (simp to_z-of_z at c.lesser.ensures) in
    subst IsMedium (sym e) (way_sized c.args.near c.args.far c.args.c c.args.around c.requires.near c.requires.far c.requires.c c.requires.around)
