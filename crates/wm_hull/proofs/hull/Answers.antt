use Rattle.std.proofs.Common.{sym}
use Rattle.wm_hull.specs.Boxes.{BoxesFit}
use Rattle.wm_hull.specs.Ranges.{IsHull}
use Rattle.wm_hull.proofs.UsedBoxes.{moved}
use Rattle.wm_hull.proofs.hull.Goals as goal

pub range-requires : goal.range-requires
range-requires c = moved (λ x y z. BoxesFit c.args.op x y z) (sym c.used-x.ensures) (sym c.used-y.ensures) (sym c.used-z.ensures) c.requires

pub returns : goal.returns
returns c = record { range = moved (λ x y z. IsHull c.args.op x y z c.range.result) c.used-x.ensures c.used-y.ensures c.used-z.ensures c.range.ensures }
