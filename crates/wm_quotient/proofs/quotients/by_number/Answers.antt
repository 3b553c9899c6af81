use Rattle.std.proofs.Common.{ℤ, pos, ◌<ℤ◌, arith}
use Rattle.std.proofs.lemmas.Int.{ints, to_z-of_z}
use Rattle.wm_quotient.proofs.Division.{held_above, held_below}
use Rattle.wm_quotient.proofs.quotients.by_number.Goals as goal

pub returns-then-divisor-gt0 : goal.returns-then-divisor-gt0
returns-then-divisor-gt0 c =
    let h : pos 0 <ℤ c.args.divisor = omega (arith, ints) in
    let low = simp (to_z-of_z, c.ranges.divisor) at c.by_positive.ensures.low in
    let high = simp (to_z-of_z, c.ranges.divisor) at c.by_positive.ensures.high in
    held_above c.args.x c.by_positive.result c.args.divisor h low high

pub returns-then-divisor-lt0 : goal.returns-then-divisor-lt0
returns-then-divisor-lt0 c =
    let h : c.args.divisor <ℤ pos 0 = omega (arith, ints) in
    let low = simp (to_z-of_z, c.ranges.divisor) at c.by_negative.ensures.low in
    let high = simp (to_z-of_z, c.ranges.divisor) at c.by_negative.ensures.high in
    held_below c.args.x c.by_negative.result c.args.divisor h low high
