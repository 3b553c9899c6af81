use Rattle.std.proofs.Common.{arith}
use Rattle.std.proofs.lemmas.Int.{ints, to_z-of_z}
use Rattle.wm_ops.proofs.products.l_mult.Goals as goal

pub returns-clause-formula : goal.returns-clause-formula
returns-clause-formula c = grind (arith, ints, to_z-of_z)
