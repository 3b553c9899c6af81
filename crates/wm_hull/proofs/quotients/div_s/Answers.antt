use Rattle.std.proofs.Common.{◌≡◌, pos, w64, FitsSigned, rules}
use Rattle.std.proofs.lemmas.Int.{to_z-of_z}
use Rattle.std.specs.Int.{int_max}
use Rattle.wm_hull.proofs.QuotientRanges.{no_pair}
use Rattle.wm_hull.proofs.quotients.div_s.Goals as goal

pub returns-then-no_pair : goal.returns-then-no_pair
returns-then-no_pair c =
    let low_fits : FitsSigned w64 c.args.x.low = search rules in
    let least_fits : FitsSigned w64 c.larger-least.result = search rules in
    let least_is : c.larger-least.result ≡ int_max c.args.x.low (pos 0) = simp to_z-of_z at c.larger-least.ensures in
    λ z. no_pair c.args.x c.args.y z c.larger-least.result least_is (simp to_z-of_z at c.if-no_pair.ensures)
