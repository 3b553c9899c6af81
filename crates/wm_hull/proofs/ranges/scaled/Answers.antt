use Rattle.std.proofs.Common.{sym, w64, FitsSigned, ◌≤ℤ◌, rules}
use Rattle.std.proofs.lemmas.Int.{to_z-of_z}
use Rattle.wm_numbers.proofs.Products.{mul_keeps}
use Rattle.wm_numbers.proofs.Order.{le_trans, le_of_eq}
use Rattle.wm_hull.proofs.ranges.scaled.Goals as goal

pub new-requires : goal.new-requires
new-requires c =
    let low_fits : FitsSigned w64 c.args.range.low = search rules in
    let high_fits : FitsSigned w64 c.args.range.high = search rules in
    let factor_fits = c.ranges.factor in
    let first_fits : FitsSigned w64 c.product.result = search rules in
    let second_fits : FitsSigned w64 c.product-2.result = search rules in
    let low = simp to_z-of_z at c.product.ensures in
    let high = simp to_z-of_z at c.product-2.ensures in
    let ordered : c.product.result ≤ℤ c.product-2.result = le_trans (le_of_eq low) (le_trans (mul_keeps c.requires.factor.above c.args.range.ordered) (le_of_eq (sym high))) in
    simp to_z-of_z ordered
