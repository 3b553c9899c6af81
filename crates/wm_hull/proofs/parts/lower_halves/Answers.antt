use Rattle.std.proofs.Common.{◌≡◌, ◌∙◌, sym, w64, FitsSigned, ◌≤ℤ◌, rules, arith}
use Rattle.std.proofs.lemmas.Int.{ints, to_z-of_z}
use Rattle.wm_numbers.proofs.Order.{le_trans, le_of_eq}
use Rattle.wm_ops.specs.Parts.{low_half}
use Rattle.wm_hull.proofs.Halving.{page, one_page, two_pages, halves_in_order}
use Rattle.wm_hull.proofs.parts.lower_halves.Goals as goal
use Rattle.wm_hull.proofs.parts.lower_halves.Goals.{After-page-2, After-lower_half-2}

page_low : (c : After-page-2) → c.page.result ≡ page c.args.x.low
page_low c = let fits : FitsSigned w64 c.args.x.low = search rules in simp to_z-of_z at c.page.ensures

page_high : (c : After-page-2) → c.page-2.result ≡ page c.args.x.high
page_high c = let fits : FitsSigned w64 c.args.x.high = search rules in simp to_z-of_z at c.page-2.ensures

pub returns-then-page : goal.returns-then-page
returns-then-page c = λ y z. two_pages c.args.x y z c.new.result
    (λ e. let same : c.page.result ≡ c.page-2.result = page_low (goal.at.returns-then-page c).After-page-2 ∙ e ∙ sym (page_high (goal.at.returns-then-page c).After-page-2) in absurd (grind (arith, ints)))
    c.new.ensures.low c.new.ensures.high

same_page : (c : After-lower_half-2) → page c.args.x.low ≡ page c.args.x.high
same_page c =
    let same : c.page.result ≡ c.page-2.result = grind (arith, ints) in
    let low : c.page.result ≡ page c.args.x.low = let fits : FitsSigned w64 c.args.x.low = search rules in simp to_z-of_z at c.page.ensures in
    let high : c.page-2.result ≡ page c.args.x.high = let fits : FitsSigned w64 c.args.x.high = search rules in simp to_z-of_z at c.page-2.ensures in
    sym low ∙ same ∙ high

half_low : (c : After-lower_half-2) → c.lower_half.result ≡ low_half c.args.x.low
half_low c = let fits : FitsSigned w64 c.args.x.low = search rules in simp to_z-of_z at c.lower_half.ensures

half_high : (c : After-lower_half-2) → c.lower_half-2.result ≡ low_half c.args.x.high
half_high c = let fits : FitsSigned w64 c.args.x.high = search rules in simp to_z-of_z at c.lower_half-2.ensures

pub new-requires-2 : goal.new-requires-2
new-requires-2 c =
    let first_fits : FitsSigned w64 c.lower_half.result = search rules in
    let second_fits : FitsSigned w64 c.lower_half-2.result = search rules in
    let ordered : c.lower_half.result ≤ℤ c.lower_half-2.result = le_trans (le_of_eq (half_low c)) (le_trans (halves_in_order c.args.x.low c.args.x.high c.args.x.ordered (same_page c)) (le_of_eq (sym (half_high c)))) in
    simp to_z-of_z ordered

pub returns : goal.returns
returns c = λ y z.
    let d = (goal.at.returns c).After-lower_half-2 in
    let first_fits : FitsSigned w64 c.lower_half.result = search rules in
    let second_fits : FitsSigned w64 c.lower_half-2.result = search rules in
    one_page c.args.x y z c.new-2.result (same_page d) (simp to_z-of_z at c.new-2.ensures.low ∙ half_low d) (simp to_z-of_z at c.new-2.ensures.high ∙ half_high d)
