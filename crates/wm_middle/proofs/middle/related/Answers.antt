use Rattle.std.proofs.Common.{rules}
use Rattle.wm_middle.proofs.Shaping.{no_parts}
use Rattle.wm_middle.proofs.middle.related.Goals as goal

pub returns-clause-good : goal.returns-clause-good
returns-clause-good c = λ n m p h.
    c.in_ok-add_all_parameters.ensures.good n m h (c.in_ok-add_all_followed.ensures.good n m h (c.in_ok-add_picked.ensures.good n m p (no_parts n m 32 _ (search rules))))
