use Rattle.wm_proving.proofs.Fitting.{FitTo}
use Rattle.wm_proving.proofs.boxes.sites_fit.Given as goal

abbrev pub invariant-loop-k : goal.invariant-loop-k
invariant-loop-k l = FitTo l.sites l.verdicts l.k
