use Rattle.std.proofs.Common.{arith}
use Rattle.wm_middle.proofs.Shaping.{more_parts}
use Rattle.wm_middle.proofs.middle.middle_of.Goals as goal

pub returns-clause-good : goal.returns-clause-good
returns-clause-good c = λ n m p h. c.in_ok-add_singles.ensures.good n m p (more_parts n m 32 4294967295 c.in_ok-parts.parts.items (omega arith) (c.in_ok-parts.ensures.good n m p h))
