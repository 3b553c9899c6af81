use Rattle.std.proofs.Common.{w64, FitsSigned, rules}
use Rattle.std.proofs.lemmas.Int.{to_z-of_z}
use Rattle.wm_rounding.proofs.Cells.{range_around}
use Rattle.wm_rounding.proofs.ends.range_around.Goals as goal

pub returns-in-Some-up : goal.returns-in-Some-up
returns-in-Some-up c =
    let low_fits : FitsSigned w64 c.args.range.low = search rules in
    let high_fits : FitsSigned w64 c.args.range.high = search rules in
    let below_fits : FitsSigned w64 c.in-Some.low = search rules in
    let above_fits : FitsSigned w64 c.in-Some-up.high = search rules in
    range_around c.args.grid.now c.args.range c.new.result c.in-Some.low c.in-Some-up.high (simp to_z-of_z at c.in-Some.ensures.nearest) (simp to_z-of_z at c.in-Some-up.ensures.nearest) (simp to_z-of_z at c.new.ensures.low) (simp to_z-of_z at c.new.ensures.high)
