use Rattle.std.proofs.Common.{sym}
use Rattle.wm_hull.specs.Boxes.{BoxesFit}
use Rattle.wm_hull.specs.Failures.{IsWorst}
use Rattle.wm_headroom.proofs.Operands.{first_at, second_at, third_at, shifted_fit, moved, told_by}
use Rattle.wm_headroom.proofs.passes.Goals as goal

pub worst-requires : goal.worst-requires
worst-requires c =
    let op = c.args.op in
    let boxes = c.args.boxes.now in
    let places = c.args.places in
    let first = first_at op boxes _ _ places c.told-boxes c.operand-first.ensures in
    let second = second_at op boxes _ _ places c.told-boxes c.operand-second.ensures in
    let third = third_at op boxes _ _ places c.told-boxes c.operand-third.ensures in
    moved (λ x y z. BoxesFit op x y z) (sym first) (sym second) (sym third) (shifted_fit op _ _ _ places c.requires.types)

pub returns : goal.returns
returns c =
    let op = c.args.op in
    let boxes = c.args.boxes.now in
    let places = c.args.places in
    let first = first_at op boxes _ _ places c.told-boxes c.operand-first.ensures in
    let second = second_at op boxes _ _ places c.told-boxes c.operand-second.ensures in
    let third = third_at op boxes _ _ places c.told-boxes c.operand-third.ensures in
    told_by op _ _ _ c.worst.result c.is_none.result c.is_none.ensures
    (moved (λ x y z. IsWorst op x y z c.worst.result) first second third c.worst.ensures.first)
