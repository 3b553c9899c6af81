use Rattle.wm_grid.proofs.Sorting.{ascends_from_sort}
use Rattle.wm_grid.proofs.grid.sorted.Goals as goal

pub returns-clause-ascends : goal.returns-clause-ascends
returns-clause-ascends c = ascends_from_sort _ c.in_ok-sort.ensures.sorted
