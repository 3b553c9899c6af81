use Rattle.std.proofs.Common.{sym, subst}
use Rattle.wm_hull.specs.Boxes.{BoxesFit}
use Rattle.wm_hull.specs.Failures.{IsWorst}
use Rattle.wm_hull.specs.Ranges.{IsBox32}
use Rattle.wm_hull.proofs.UsedBoxes.{moved, used_first, used_second, used_third}
use Rattle.wm_hull.proofs.worst.Goals as goal

pub first_failure-requires-clause-types : goal.first_failure-requires-clause-types
first_failure-requires-clause-types c = moved (λ x y z. BoxesFit c.args.op x y z) (sym c.used-x.ensures) (sym c.used-y.ensures) (sym c.used-z.ensures) c.requires

pub first_failure-requires-clause-first : goal.first_failure-requires-clause-first
first_failure-requires-clause-first c = subst IsBox32 (sym c.used-x.ensures) (used_first c.args.op c.args.boxes.now c.requires)

pub first_failure-requires-clause-second : goal.first_failure-requires-clause-second
first_failure-requires-clause-second c = subst IsBox32 (sym c.used-y.ensures) (used_second c.args.op c.args.boxes.now c.requires)

pub first_failure-requires-clause-third : goal.first_failure-requires-clause-third
first_failure-requires-clause-third c = subst IsBox32 (sym c.used-z.ensures) (used_third c.args.op c.args.boxes.now c.requires)

pub returns : goal.returns
returns c = record { first = moved (λ x y z. IsWorst c.args.op x y z c.first_failure.result) c.used-x.ensures c.used-y.ensures c.used-z.ensures c.first_failure.ensures }
