use Rattle.std.proofs.Common.{arith}
use Rattle.std.proofs.lemmas.Int.{ints}
use Rattle.wm_failing.proofs.Quotients.{no_quotient, one_quotient}
use Rattle.wm_failing.proofs.failing.first_quotient.Goals as goal

pub returns-then-x-gtminus2147483648 : goal.returns-then-x-gtminus2147483648
returns-then-x-gtminus2147483648 c =
    no_quotient c.args.x c.args.y c.requires.first (λ h k. let a = h.above in omega (arith, ints))

pub returns-then-y-gtminus1 : goal.returns-then-y-gtminus1
returns-then-y-gtminus1 c =
    no_quotient c.args.x c.args.y c.requires.first (λ h k. let a = k.above in omega (arith, ints))

pub returns-then-y-ltminus1 : goal.returns-then-y-ltminus1
returns-then-y-ltminus1 c =
    no_quotient c.args.x c.args.y c.requires.first (λ h k. let a = k.below in omega (arith, ints))

pub returns : goal.returns
returns c =
    let low = c.requires.first.low_in.above in
    let o = c.args.x.ordered in
    one_quotient c.args.x c.args.y c.requires.first
    (record { above = omega (arith, ints); below = omega (arith, ints) })
    (record { above = omega (arith, ints); below = omega (arith, ints) })
