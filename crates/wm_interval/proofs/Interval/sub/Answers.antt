use Rattle.std.proofs.Common.{◌≡◌, ◌-ℤ◌, arith}
use Rattle.std.proofs.lemmas.Int.{ints}
use Rattle.wm_interval.proofs.Hulls.{hull_of}
use Rattle.wm_numbers.proofs.Extremes.{least_difference, greatest_difference}
use Rattle.wm_interval.proofs.Interval.sub.Goals as goal

pub returns-clause-high : goal.returns-clause-high
returns-clause-high c = omega (arith, ints, c.new.ensures.high, c.requires.here.high_size, c.requires.there.low_size)

pub returns-clause-least : goal.returns-clause-least
returns-clause-least c =
    let low : c.new.result.low ≡ c.args.self.low -ℤ c.args.other.high = omega (arith, ints, c.new.ensures.low, c.requires.here.low_size, c.requires.there.high_size) in
    hull_of _ _ _ _ low (returns-clause-high c) (least_difference _ _ _ _ c.args.self.ordered c.args.other.ordered) (greatest_difference _ _ _ _ c.args.self.ordered c.args.other.ordered)
