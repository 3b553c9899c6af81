use Rattle.std.proofs.Common.{pos, ◌≤ℤ◌, ◌<ℤ◌, inl, inr, arith}
use Rattle.std.proofs.lemmas.Int.{ints}
use Rattle.wm_hull.proofs.QuotientRanges.{outside_somewhere, outside_nowhere}
use Rattle.wm_hull.proofs.failures.leaves_domain.Goals as goal

pub returns-then-x-lt0 : goal.returns-then-x-lt0
returns-then-x-lt0 c = λ z.
    let negative : c.args.x.low <ℤ pos 0 = grind (arith, ints) in
    outside_somewhere c.args.x c.args.y z (inl negative)

pub returns-then-y-lt1 : goal.returns-then-y-lt1
returns-then-y-lt1 c = λ z.
    let none : c.args.y.low ≤ℤ pos 0 = grind (arith, ints) in
    outside_somewhere c.args.x c.args.y z (inr (inl none))

pub returns-then-x-y : goal.returns-then-x-y
returns-then-x-y c = λ z.
    let greater : c.args.y.low <ℤ c.args.x.high = grind (arith, ints) in
    outside_somewhere c.args.x c.args.y z (inr (inr greater))

pub returns : goal.returns
returns c = λ z.
    let natural : pos 0 ≤ℤ c.args.x.low = grind (arith, ints) in
    let positive : pos 1 ≤ℤ c.args.y.low = grind (arith, ints) in
    let proper : c.args.x.high ≤ℤ c.args.y.low = grind (arith, ints) in
    outside_nowhere c.args.x c.args.y z natural positive proper
