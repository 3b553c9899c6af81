use Rattle.std.proofs.Common.{arith}
use Rattle.std.proofs.lemmas.Int.{ints, to_z-of_z}
use Rattle.wm_ops.proofs.products.mult_r.Goals as goal

pub returns : goal.returns
returns c = record { formula = grind (arith, ints, to_z-of_z) }
