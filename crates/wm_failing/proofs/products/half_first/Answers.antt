use Rattle.std.proofs.Common.{◌≡◌, ℤ, pos, ◌*ℤ◌, ◌+ℤ◌, ◌≤ℤ◌, ◌<ℤ◌, w64, FitsSigned, rules, arith}
use Rattle.std.proofs.lemmas.Int.{ints, to_z-of_z}
use Rattle.wm_ops.specs.Clamping.{leaves32}
use Rattle.wm_hull.proofs.Narrowing.{box_within, lower_kept_first, upper_kept_first}
use Rattle.wm_failing.proofs.products.half_first.Goals as goal
use Rattle.wm_failing.proofs.products.half_first.Goals.{After-new-lower, After-new}

low_is : (c : After-new-lower) → c.new-lower.result.low ≡ c.args.left.low
low_is c = let fits : FitsSigned w64 c.args.left.low = search rules in simp to_z-of_z at c.new-lower.ensures.low

middle_is : (c : After-new-lower) → c.new-lower.result.high ≡ c.middle-middle.result
middle_is c = let fits : FitsSigned w64 c.middle-middle.result = search rules in simp to_z-of_z at c.new-lower.ensures.high

lower_below : (c : After-new-lower) → c.new-lower.result.high <ℤ c.args.left.high
lower_below c = let e = middle_is c in let h = c.middle-middle.ensures.high in omega (arith, ints)

pub products_leave-requires-clause-first : goal.products_leave-requires-clause-first
products_leave-requires-clause-first c =
    let d = (goal.at.products_leave-requires-clause-first c).After-new-lower in
    let o = c.new-lower.result.ordered in
    let low = low_is d in
    let below = lower_below d in
    box_within c.args.left c.new-lower.result c.requires.size
    (record { above = omega (arith, ints); below = omega (arith, ints) }) (record { above = omega (arith, ints); below = omega (arith, ints) })

pub returns-then-products_leave-clause-keeps : goal.returns-then-products_leave-clause-keeps
returns-then-products_leave-clause-keeps c =
    let d = (goal.at.returns-then-products_leave-clause-keeps c).After-new-lower in
    let below = lower_below d in
    let within : c.new-lower.result.high ≤ℤ c.args.left.high = omega (arith, ints) in
    λ x z s. lower_kept_first (λ (a b c : ℤ). leaves32 (a *ℤ b)) x c.args.y z c.args.left c.new-lower.result (low_is d) within s (c.if-products_leave.ensures z)

pub returns-clause-keeps : goal.returns-clause-keeps
returns-clause-keeps c =
    let d = (goal.at.returns-clause-keeps c).After-new-lower in
    let below = lower_below d in
    let within : c.new-lower.result.high ≤ℤ c.args.left.high = omega (arith, ints) in
    let high_fits : FitsSigned w64 c.args.left.high = search rules in
    let high : c.new.result.high ≡ c.args.left.high = simp to_z-of_z at c.new.ensures.high in
    let e = middle_is d in
    let h = c.middle-middle.ensures.high in
    let next : c.new.result.low ≡ c.new-lower.result.high +ℤ pos 1 = let l = c.new.ensures.low in omega (arith, ints) in
    λ x z s. upper_kept_first (λ (a b c : ℤ). leaves32 (a *ℤ b)) x c.args.y z c.args.left c.new-lower.result (low_is d) within c.new.result high next s (c.if-products_leave.ensures z)
