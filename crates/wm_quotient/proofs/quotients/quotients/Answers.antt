use Rattle.std.proofs.Common.{◌≡◌, ℤ, FitsSigned, w64, arith}
use Rattle.std.proofs.lemmas.Int.{ints, to_z-of_z}
use Rattle.wm_quotient.proofs.Division.{single, fits_of_size}
use Rattle.wm_quotient.proofs.quotients.quotients.Goals as goal

pub returns-then-y : goal.returns-then-y
returns-then-y c =
    let e : c.args.y.low ≡ c.args.y.high = omega (arith, ints) in
    let f : FitsSigned w64 c.args.y.low = fits_of_size c.args.y.low c.requires.others.low_size in
    let h = simp (to_z-of_z, f) at c.by_number.ensures in
    single c.args.x c.args.y c.by_number.result e h
