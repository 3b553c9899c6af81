use Rattle.std.proofs.Common.{arith, subst, sym, w64, rules, ℕ, ℤ, ◌<◌, ◌≤◌, length, get_or, ◌<ℤ◌, ◌≤ℤ◌}
use Rattle.std.specs.Prelude.{FitsSigned}
use Rattle.std.proofs.lemmas.Int.{to_z-of_z}
use Rattle.wm_numbers.specs.Extremes.{GreatestOf}
use Rattle.wm_grid.specs.Grid.{IsAtOrBelow}
use Rattle.wm_grid.proofs.Neighbours.{last_below}
use Rattle.wm_grid.proofs.nearest.last_at_or_below.Goals as goal

pub returns : goal.returns
returns c =
    let fits : FitsSigned w64 c.number_at.result = search rules in
    let z_fits : FitsSigned w64 c.args.z = search rules in
    let below : (k : ℕ) (d : ℤ) → k < c.count_to-place.result → get_or c.args.numbers.now k d ≤ℤ c.args.z = simp to_z-of_z at c.count_to-place.ensures.below in
    let above : (k : ℕ) (d : ℤ) → c.count_to-place.result ≤ k → k < length c.args.numbers.now → c.args.z <ℤ get_or c.args.numbers.now k d = simp to_z-of_z at c.count_to-place.ensures.above in
    simp to_z-of_z (subst (GreatestOf (IsAtOrBelow c.args.numbers.now c.args.z)) (sym c.number_at.ensures)
    (last_below c.args.numbers.now c.args.z c.count_to-place.result c.requires (omega arith) c.count_to-place.ensures.within below above))
