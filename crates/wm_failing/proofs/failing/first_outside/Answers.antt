use Rattle.std.proofs.Common.{rules, w64, FitsSigned, ◌<ℤ◌, ◌≤ℤ◌, ◌+ℤ◌, pos, arith}
use Rattle.std.proofs.lemmas.Int.{ints, to_z-of_z}
use Rattle.wm_failing.proofs.Outside.{first_low, first_above}
use Rattle.wm_failing.proofs.failing.first_outside.Goals as goal

pub returns-then-x-high-2 : goal.returns-then-x-high-2
returns-then-x-high-2 c =
    let a : FitsSigned w64 c.args.x.low = search rules in
    let h : c.args.high <ℤ c.args.x.low = omega (arith, ints) in
    simp to_z-of_z (first_low c.args.x c.args.low c.args.high h)

pub returns : goal.returns
returns c =
    let a : FitsSigned w64 c.args.x.high = search rules in
    let b : FitsSigned w64 c.args.high = search rules in
    let h : c.args.low ≤ℤ c.args.x.low = omega (arith, ints) in
    let k : c.args.x.low ≤ℤ c.args.high = omega (arith, ints) in
    let t : c.args.high <ℤ c.args.x.high = omega (arith, ints) in
    let n : FitsSigned w64 (c.args.high +ℤ pos 1) = omega (arith, ints) in
    simp to_z-of_z (first_above c.args.x c.args.low c.args.high h k t)
