use Rattle.wm_parameters.proofs.addressed.+store.Given as goal

abbrev pub decreases-store : goal.decreases-store
decreases-store l = l.count
