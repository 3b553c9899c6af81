use Rattle.std.proofs.Common.{◌≡◌, ◌+ℤ◌, arith}
use Rattle.std.proofs.lemmas.Int.{ints}
use Rattle.wm_interval.proofs.Hulls.{hull_of}
use Rattle.wm_numbers.proofs.Extremes.{least_sum, greatest_sum}
use Rattle.wm_interval.proofs.Interval.add.Goals as goal

pub returns-clause-high : goal.returns-clause-high
returns-clause-high c = omega (arith, ints, c.new.ensures.high, c.requires.here.high_size, c.requires.there.high_size)

pub returns-clause-least : goal.returns-clause-least
returns-clause-least c =
    let low : c.new.result.low ≡ c.args.self.low +ℤ c.args.other.low = omega (arith, ints, c.new.ensures.low, c.requires.here.low_size, c.requires.there.low_size) in
    hull_of _ _ _ _ low (returns-clause-high c) (least_sum _ _ _ _ c.args.self.ordered c.args.other.ordered) (greatest_sum _ _ _ _ c.args.self.ordered c.args.other.ordered)
