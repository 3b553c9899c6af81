use Rattle.std.proofs.Common.{◌≡◌, ◌∙◌, ◌*ℤ◌, ◌≤ℤ◌, w64, FitsSigned, rules}
use Rattle.std.specs.Int.{int_min, int_max}
use Rattle.std.proofs.lemmas.Int.{to_z-of_z}
use Rattle.wm_interval.proofs.Hulls.{hull_of, four_in_order}
use Rattle.wm_numbers.proofs.Extremes.{least_product, greatest_product}
use Rattle.wm_interval.proofs.Interval.mul.Goals as goal
use Rattle.wm_interval.proofs.Interval.mul.Goals.{After-new, After-greatest_of_four-high}

least_is : (c : After-greatest_of_four-high) → c.least_of_four-low.result ≡ int_min (int_min (c.args.self.low *ℤ c.args.other.low) (c.args.self.low *ℤ c.args.other.high)) (int_min (c.args.self.high *ℤ c.args.other.low) (c.args.self.high *ℤ c.args.other.high))
least_is c =
    let self_low : FitsSigned w64 c.args.self.low = search rules in
    let self_high : FitsSigned w64 c.args.self.high = search rules in
    let other_low : FitsSigned w64 c.args.other.low = search rules in
    let other_high : FitsSigned w64 c.args.other.high = search rules in
    let a : FitsSigned w64 c.product-low_low.result = search rules in
    let b : FitsSigned w64 c.product-low_high.result = search rules in
    let d : FitsSigned w64 c.product-high_low.result = search rules in
    let e : FitsSigned w64 c.product-high_high.result = search rules in
    let least = simp to_z-of_z at c.least_of_four-low.ensures in
    let low_low = simp to_z-of_z at c.product-low_low.ensures in
    let low_high = simp to_z-of_z at c.product-low_high.ensures in
    let high_low = simp to_z-of_z at c.product-high_low.ensures in
    let high_high = simp to_z-of_z at c.product-high_high.ensures in
    cc

greatest_is : (c : After-greatest_of_four-high) → c.greatest_of_four-high.result ≡ int_max (int_max (c.args.self.low *ℤ c.args.other.low) (c.args.self.low *ℤ c.args.other.high)) (int_max (c.args.self.high *ℤ c.args.other.low) (c.args.self.high *ℤ c.args.other.high))
greatest_is c =
    let self_low : FitsSigned w64 c.args.self.low = search rules in
    let self_high : FitsSigned w64 c.args.self.high = search rules in
    let other_low : FitsSigned w64 c.args.other.low = search rules in
    let other_high : FitsSigned w64 c.args.other.high = search rules in
    let a : FitsSigned w64 c.product-low_low.result = search rules in
    let b : FitsSigned w64 c.product-low_high.result = search rules in
    let d : FitsSigned w64 c.product-high_low.result = search rules in
    let e : FitsSigned w64 c.product-high_high.result = search rules in
    let greatest = simp to_z-of_z at c.greatest_of_four-high.ensures in
    let low_low = simp to_z-of_z at c.product-low_low.ensures in
    let low_high = simp to_z-of_z at c.product-low_high.ensures in
    let high_low = simp to_z-of_z at c.product-high_low.ensures in
    let high_high = simp to_z-of_z at c.product-high_high.ensures in
    cc

pub new-requires : goal.new-requires
new-requires c =
    let low_fits : FitsSigned w64 c.least_of_four-low.result = search rules in
    let high_fits : FitsSigned w64 c.greatest_of_four-high.result = search rules in
    let ordered : c.least_of_four-low.result ≤ℤ c.greatest_of_four-high.result = four_in_order (c.args.self.low *ℤ c.args.other.low) (c.args.self.low *ℤ c.args.other.high) (c.args.self.high *ℤ c.args.other.low) (c.args.self.high *ℤ c.args.other.high) _ _ (least_is c) (greatest_is c) in
    simp to_z-of_z ordered

pub returns-clause-low : goal.returns-clause-low
returns-clause-low c =
    let fits : FitsSigned w64 c.least_of_four-low.result = search rules in
    simp to_z-of_z at c.new.ensures.low ∙ least_is (goal.at.returns-clause-low c).After-greatest_of_four-high

pub returns-clause-high : goal.returns-clause-high
returns-clause-high c =
    let fits : FitsSigned w64 c.greatest_of_four-high.result = search rules in
    simp to_z-of_z at c.new.ensures.high ∙ greatest_is (goal.at.returns-clause-high c).After-greatest_of_four-high

pub returns-clause-least : goal.returns-clause-least
returns-clause-least c = hull_of _ _ _ _ (returns-clause-low c) (returns-clause-high c) (least_product _ _ _ _ c.args.self.ordered c.args.other.ordered) (greatest_product _ _ _ _ c.args.self.ordered c.args.other.ordered)
