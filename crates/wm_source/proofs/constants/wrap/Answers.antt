-- The low half by the floor of a division.
use Rattle.std.proofs.Common.{arith}
use Rattle.std.proofs.lemmas.Int.{ints, to_z-of_z}
use Rattle.wm_ops.specs.Parts.{low_half}
use Rattle.wm_source.proofs.constants.wrap.Goals as goal

pub returns-in-W16-clause-wrapped : goal.returns-in-W16-clause-wrapped
unfolding low_half
returns-in-W16-clause-wrapped c = grind (arith, ints, to_z-of_z)
