use Rattle.std.proofs.Common.{sym}
use Rattle.wm_ops.specs.Outcomes.{flags_of}
use Rattle.wm_hull.specs.Boxes.{BoxesFit}
use Rattle.wm_hull.specs.Failures.{TellsWhether}
use Rattle.wm_hull.proofs.UsedBoxes.{moved}
use Rattle.wm_hull.proofs.flags.Goals as goal

pub flags-requires : goal.flags-requires
flags-requires c = moved (λ x y z. BoxesFit c.args.op x y z) (sym c.used-x.ensures) (sym c.used-y.ensures) (sym c.used-z.ensures) c.requires

pub returns : goal.returns
returns c = record { somewhere = moved (λ x y z. TellsWhether c.flags.result (flags_of c.args.op) x y z) c.used-x.ensures c.used-y.ensures c.used-z.ensures c.flags.ensures }
