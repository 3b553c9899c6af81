use Rattle.std.proofs.Common.{List, length, subst}
use Rattle.wm_interval.specs.declared.Interval.{Interval}
use Rattle.wm_spans.specs.Exact.{IsBlank}
use Rattle.wm_tied.specs.Leaving.{IsExactly}
use Rattle.wm_groups.proofs.Least.{least_exactly}
use Rattle.wm_groups.proofs.groups.GroupsDomain.full.Goals as goal

pub returns-clause-least : goal.returns-clause-least
returns-clause-least c = least_exactly c.in_ok-tied.tied _ (subst (λ (xs : List Interval). IsExactly c.in_ok-tied.tied (IsBlank (length xs))) c.items-3.ensures.items c.in_ok-tied.ensures.points)
