-- What was passed over has no choice for the head.
use Rattle.std.proofs.Common.{◌≡◌, map, drop}
use Rattle.wm_worst_text.specs.Times.{turns_among, turns_of}
use Rattle.wm_worst_text.proofs.Folds.{turning}
use Rattle.wm_worst_text.proofs.times.+turns_of.Given as goal

abbrev pub invariant-loop-body : goal.invariant-loop-body
invariant-loop-body l = turns_among l.head (map (turning l.head) (drop l.body-index l.body-items)) ≡ turns_of l.head l.choice
