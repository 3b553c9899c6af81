use Rattle.std.proofs.Common.{arith}
use Rattle.std.proofs.lemmas.Int.{ints, to_z-of_z}
use Rattle.wm_ops.specs.Parts.{low_half}
use Rattle.wm_ops.proofs.parts.extract_l.Goals as goal

pub returns : goal.returns
unfolding low_half
returns c = record { formula = grind (arith, ints, to_z-of_z) }
