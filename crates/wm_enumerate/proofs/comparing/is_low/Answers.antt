use Rattle.std.proofs.Common.{arith}
use Rattle.std.proofs.lemmas.Int.{ints}
use Rattle.wm_enumerate.proofs.Low.{low_of_range}
use Rattle.wm_enumerate.proofs.comparing.is_low.Goals as goal

pub returns-in-Some : goal.returns-in-Some
returns-in-Some c = λ t.
    let e = c.within.ensures.ends.0 t in
    let a = e.0 in
    let b = e.1 in
    let p = c.new.ensures.low in
    let q = c.new.ensures.high in
    low_of_range c.args.octagon.now c.args.v c.in-Some.range.low c.in-Some.range.high c.in-Some.ensures.ends (omega (arith, ints), omega (arith, ints))
