use Rattle.std.proofs.Common.{◌≡◌, ℤ, FitsSigned, w64, rules}
use Rattle.std.proofs.lemmas.Int.{to_z-of_z}
use Rattle.wm_quotient.proofs.Division.{in_order, fits_of_size}
use Rattle.wm_quotient.proofs.quotients.by_positive.Goals as goal

pub new-requires : goal.new-requires
new-requires c =
    let f : FitsSigned w64 c.args.x.low = fits_of_size c.args.x.low c.requires.sizes.low_size in
    let h : FitsSigned w64 c.args.x.high = fits_of_size c.args.x.high c.requires.sizes.high_size in
    let low_fits : FitsSigned w64 c.over-low.result = search rules in
    let high_fits : FitsSigned w64 c.over-high.result = search rules in
    let low = simp (to_z-of_z, f, c.ranges.divisor) at c.over-low.ensures in
    let high = simp (to_z-of_z, h, c.ranges.divisor) at c.over-high.ensures in
    simp (to_z-of_z, low_fits, high_fits) (in_order c.args.x c.over-low.result c.over-high.result c.args.divisor c.requires.positive low high)
