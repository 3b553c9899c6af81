use Rattle.std.proofs.Common.{◌≡◌, ◌<ℤ◌, arith}
use Rattle.std.specs.Int.{int_min, int_max}
use Rattle.std.proofs.lemmas.Int.{ints, clamps}
use Rattle.wm_interval.proofs.Hulls.{in_both, in_meet, hull_both, apart}
use Rattle.wm_interval.proofs.Interval.meet.Goals as goal
use Rattle.wm_interval.proofs.Interval.meet.Goals.{After-new}

pub returns-then-low-high-clause-common : goal.returns-then-low-high-clause-common
returns-then-low-high-clause-common c =
    let passed : int_min c.args.self.high c.args.other.high <ℤ int_max c.args.self.low c.args.other.low = omega (arith, ints, clamps) in
    apart c.args.self c.args.other passed

low_is : (c : After-new) → c.new.result.low ≡ int_max c.args.self.low c.args.other.low
low_is c = omega (arith, ints, clamps)

high_is : (c : After-new) → c.new.result.high ≡ int_min c.args.self.high c.args.other.high
high_is c = omega (arith, ints, clamps)

pub returns-clause-common : goal.returns-clause-common
returns-clause-common c = hull_both c.args.self c.args.other c.new.result (low_is c) (high_is c)

pub returns-clause-each : goal.returns-clause-each
returns-clause-each c = λ z. (in_both c.args.self c.args.other c.new.result (low_is c) (high_is c) z, in_meet c.args.self c.args.other c.new.result (low_is c) (high_is c) z)
