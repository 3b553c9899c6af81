use Rattle.std.proofs.Common.{◌≡◌, pos, neg_ℤ, ◌≤ℤ◌, arith}
use Rattle.std.specs.Int.{int_max}
use Rattle.std.proofs.lemmas.Int.{ints, clamps}
use Rattle.wm_hull.proofs.Spans.{sizes_kept, sizes_turned, sizes_both}
use Rattle.wm_hull.proofs.sums.sizes.Goals as goal

pub returns-then-x-ge0 : goal.returns-then-x-ge0
returns-then-x-ge0 c = λ y z. let natural : pos 0 ≤ℤ c.args.x.low = omega (arith, ints) in sizes_kept c.args.x y z natural

pub returns-then-x-le0 : goal.returns-then-x-le0
returns-then-x-le0 c = λ y z. let negative : c.args.x.high ≤ℤ pos 0 = omega (arith, ints) in sizes_turned c.args.x y z c.negated.result negative c.negated.ensures.low c.negated.ensures.high

pub returns : goal.returns
returns c = λ y z.
    let low_is : c.args.x.low ≤ℤ pos 0 = omega (arith, ints) in
    let high_is : pos 0 ≤ℤ c.args.x.high = omega (arith, ints) in
    let high : c.new.result.high ≡ int_max c.args.x.high (neg_ℤ c.args.x.low) = omega (arith, ints, clamps) in
    sizes_both c.args.x y z c.new.result low_is high_is c.new.ensures.low high
