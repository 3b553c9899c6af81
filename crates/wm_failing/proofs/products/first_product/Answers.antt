use Rattle.std.proofs.Common.{ℤ, ◌*ℤ◌, refl, w64, FitsSigned, rules}
use Rattle.std.proofs.lemmas.Int.{to_z-of_z}
use Rattle.wm_ops.specs.Clamping.{leaves32}
use Rattle.wm_hull.specs.Boxes.{zero_box}
use Rattle.wm_hull.proofs.Narrowing.{first_of_all, begin_third, box_within}
use Rattle.wm_failing.proofs.products.first_product.Goals as goal

pub search_second-second-requires-clause-first : goal.search_second-second-requires-clause-first
search_second-second-requires-clause-first c = box_within c.args.x c.search_first-first.result c.requires.first c.search_first-first.ensures.searched.low_in c.search_first-first.ensures.searched.high_in

pub search_second-second-requires-clause-some : goal.search_second-second-requires-clause-some
search_second-second-requires-clause-some c = c.search_first-first.ensures.searched.found

pub returns : goal.returns
returns c =
    let a : FitsSigned w64 c.search_first-first.result.low = search rules in
    let b : FitsSigned w64 c.search_second-second.result.low = search rules in
    simp to_z-of_z (first_of_all (λ (a b c : ℤ). leaves32 (a *ℤ b)) c.args.x c.args.y zero_box c.search_first-first.result c.search_second-second.result zero_box
    c.search_first-first.ensures.searched c.search_first-first.ensures.point c.search_second-second.ensures.searched c.search_second-second.ensures.point
    (begin_third (λ (a b c : ℤ). leaves32 (a *ℤ b)) c.search_first-first.result c.search_second-second.result zero_box c.search_second-second.ensures.searched.found) refl)
