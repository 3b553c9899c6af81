use Rattle.std.proofs.Common.{◌≡◌, arith}
use Rattle.std.specs.Int.{int_min, int_max}
use Rattle.std.proofs.lemmas.Int.{ints, clamps}
use Rattle.wm_interval.proofs.Hulls.{hull_of, least_either, greatest_either}
use Rattle.wm_interval.proofs.Interval.join.Goals as goal

pub returns-clause-least : goal.returns-clause-least
returns-clause-least c =
    let low : c.new.result.low ≡ int_min c.args.self.low c.args.other.low = omega (arith, ints, clamps) in
    let high : c.new.result.high ≡ int_max c.args.self.high c.args.other.high = omega (arith, ints, clamps) in
    hull_of _ _ _ _ low high (least_either c.args.self c.args.other) (greatest_either c.args.self c.args.other)
