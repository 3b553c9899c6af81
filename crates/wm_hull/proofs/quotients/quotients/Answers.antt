use Rattle.std.proofs.Common.{◌≡◌, ◌∙◌, sym, pos, w64, FitsSigned, ◌≤ℤ◌, ◌<ℤ◌, rules, arith}
use Rattle.std.proofs.lemmas.Int.{ints, clamps, to_z-of_z}
use Rattle.std.specs.Int.{int_max}
use Rattle.wm_numbers.proofs.Order.{le_trans, le_of_eq}
use Rattle.wm_numbers.specs.Within.{IsWord16}
use Rattle.wm_ops.specs.Division.{quotient}
use Rattle.wm_hull.proofs.Dividing.{InDomain, domain_in, quotient_most, quotient_rises}
use Rattle.wm_hull.proofs.QuotientRanges.{hull_meeting, hull_apart}
use Rattle.wm_hull.proofs.quotients.quotients.Goals as goal
use Rattle.wm_hull.proofs.quotients.quotients.Goals.{After-larger-divisor, After-quotient-low, After-quotient-high}

least_pair : (c : After-larger-divisor) → InDomain c.args.least c.args.y.high
least_pair c = let l = c.requires.least in record { natural = omega (arith, ints, clamps); proper = c.requires.meets; positive = c.requires.positive }

divisor_is : (c : After-larger-divisor) → c.larger-divisor.result ≡ int_max c.args.y.low (pos 1)
divisor_is c = let fits : FitsSigned w64 c.args.y.low = search rules in simp to_z-of_z at c.larger-divisor.ensures

pub quotient-low-requires-clause-first : goal.quotient-low-requires-clause-first
quotient-low-requires-clause-first c =
    let fits = c.ranges.least in
    let l = c.requires.least in
    let o = c.args.x.ordered in
    let low = c.requires.first.low_in in
    let high = c.requires.first.high_in in
    let word : IsWord16 c.args.least = record { above = omega (arith, ints, clamps, low.above, low.below); below = omega (arith, ints, clamps, low.above, low.below) } in
    simp to_z-of_z word

pub quotient-low-requires-clause-domain : goal.quotient-low-requires-clause-domain
quotient-low-requires-clause-domain c =
    let fits = c.ranges.least in
    let high_fits : FitsSigned w64 c.args.y.high = search rules in
    simp to_z-of_z (domain_in c.args.least c.args.y.high (least_pair (goal.at.quotient-low-requires-clause-domain c).After-larger-divisor))

low_is : (c : After-quotient-low) → c.quotient-low.result ≡ quotient c.args.least c.args.y.high
low_is c =
    let fits = c.ranges.least in
    let high_fits : FitsSigned w64 c.args.y.high = search rules in
    simp to_z-of_z at c.quotient-low.ensures

pub new-requires : goal.new-requires
new-requires c =
    let fits : FitsSigned w64 c.quotient-low.result = search rules in
    let most : c.quotient-low.result ≤ℤ pos 32767 = le_trans (le_of_eq (low_is (goal.at.new-requires c).After-quotient-low)) (quotient_most c.args.least c.args.y.high (least_pair (goal.at.new-requires c).After-larger-divisor)) in
    simp to_z-of_z most

pub returns-then-divisor-x : goal.returns-then-divisor-x
returns-then-divisor-x c =
    let fits : FitsSigned w64 c.quotient-low.result = search rules in
    let below : c.larger-divisor.result ≤ℤ c.args.x.high = omega (arith, ints) in
    λ z. hull_meeting c.args.x c.args.y z c.args.least c.larger-divisor.result c.requires.least (divisor_is (goal.at.returns-then-divisor-x c).After-larger-divisor) c.requires.natural c.requires.positive c.requires.meets
    c.new.result below (simp to_z-of_z at c.new.ensures.low ∙ low_is (goal.at.returns-then-divisor-x c).After-quotient-low) c.new.ensures.high

apart : (c : After-quotient-low) → c.args.x.high <ℤ c.larger-divisor.result → InDomain c.args.x.high c.larger-divisor.result
apart c h = let m = c.larger-divisor.ensures in record { natural = c.requires.natural; proper = omega (arith, ints); positive = omega (arith, ints, clamps) }

pub quotient-high-requires-clause-first : goal.quotient-high-requires-clause-first
quotient-high-requires-clause-first c = let fits : FitsSigned w64 c.args.x.high = search rules in simp to_z-of_z c.requires.first.high_in

pub quotient-high-requires-clause-second : goal.quotient-high-requires-clause-second
quotient-high-requires-clause-second c =
    let fits : FitsSigned w64 c.larger-divisor.result = search rules in
    let m = c.larger-divisor.ensures in
    let low = c.requires.second.low_in in
    let word : IsWord16 c.larger-divisor.result = record { above = omega (arith, ints, clamps, low.above, low.below); below = omega (arith, ints, clamps, low.above, low.below) } in
    simp to_z-of_z word

pub quotient-high-requires-clause-domain : goal.quotient-high-requires-clause-domain
quotient-high-requires-clause-domain c =
    let fits : FitsSigned w64 c.args.x.high = search rules in
    let divisor_fits : FitsSigned w64 c.larger-divisor.result = search rules in
    let passed : c.args.x.high <ℤ c.larger-divisor.result = omega (arith, ints) in
    simp to_z-of_z (domain_in c.args.x.high c.larger-divisor.result (apart (goal.at.quotient-high-requires-clause-domain c).After-quotient-low passed))

high_is : (c : After-quotient-high) → c.quotient-high.result ≡ quotient c.args.x.high c.larger-divisor.result
high_is c =
    let fits : FitsSigned w64 c.args.x.high = search rules in
    let divisor_fits : FitsSigned w64 c.larger-divisor.result = search rules in
    simp to_z-of_z at c.quotient-high.ensures

pub new-requires-2 : goal.new-requires-2
new-requires-2 c =
    let first : FitsSigned w64 c.quotient-low.result = search rules in
    let second : FitsSigned w64 c.quotient-high.result = search rules in
    let passed : c.args.x.high <ℤ c.larger-divisor.result = omega (arith, ints) in
    let d = (goal.at.new-requires-2 c).After-quotient-low in
    let l = c.requires.least in
    let m = c.larger-divisor.ensures in
    let o = c.args.x.ordered in
    let p = c.args.y.ordered in
    let natural = c.requires.natural in
    let positive = c.requires.positive in
    let up : c.args.least ≤ℤ c.args.x.high = omega (arith, ints, clamps) in
    let down : c.larger-divisor.result ≤ℤ c.args.y.high = omega (arith, ints, clamps) in
    let ordered : c.quotient-low.result ≤ℤ c.quotient-high.result = le_trans (le_of_eq (low_is d))
    (le_trans (quotient_rises c.args.least c.args.y.high c.args.x.high c.larger-divisor.result (least_pair (goal.at.new-requires-2 c).After-larger-divisor) (apart d passed) up down)
    (le_of_eq (sym (high_is (goal.at.new-requires-2 c).After-quotient-high)))) in
    simp to_z-of_z ordered

pub returns : goal.returns
returns c =
    let first : FitsSigned w64 c.quotient-low.result = search rules in
    let second : FitsSigned w64 c.quotient-high.result = search rules in
    let passed : c.args.x.high <ℤ c.larger-divisor.result = omega (arith, ints) in
    λ z. hull_apart c.args.x c.args.y z c.args.least c.larger-divisor.result c.requires.least (divisor_is (goal.at.returns c).After-larger-divisor) c.requires.natural c.requires.positive c.requires.meets
    c.new-2.result passed (simp to_z-of_z at c.new-2.ensures.low ∙ low_is (goal.at.returns c).After-quotient-low) (simp to_z-of_z at c.new-2.ensures.high ∙ high_is (goal.at.returns c).After-quotient-high)
