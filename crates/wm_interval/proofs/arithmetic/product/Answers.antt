use Rattle.std.proofs.Common.{◌*ℤ◌, w64, FitsSigned}
use Rattle.std.proofs.lemmas.Int.{to_z-of_z}
use Rattle.wm_interval.proofs.Hulls.{product_fits}
use Rattle.wm_interval.proofs.arithmetic.product.Goals as goal

pub returns : goal.returns
returns c =
    let a = c.ranges.a in
    let b = c.ranges.b in
    let f : FitsSigned w64 (c.args.a *ℤ c.args.b) = product_fits c.args.a c.args.b c.requires.here c.requires.there in
    simp to_z-of_z
