use Rattle.wm_worst_laws.proofs.Adding.{makes_the_bound, times_add_up}
use Rattle.wm_worst_laws.proofs.laws.sum_laws.Goals as goal

pub returns : goal.returns
returns c = record { times_add_up = times_add_up; makes_the_bound = makes_the_bound }
