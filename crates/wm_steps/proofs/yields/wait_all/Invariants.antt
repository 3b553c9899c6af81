use Rattle.std.proofs.Common.{◌≡◌, drop}
use Rattle.wm_flow.specs.Places.{bases_of}
use Rattle.wm_places.specs.Seen.{plan_of}
use Rattle.wm_steps.specs.Moves.{yielding}
use Rattle.wm_steps.specs.Values.{all_waited}
use Rattle.wm_steps.proofs.yields.wait_all.Given as goal

abbrev pub invariant-loop-kept : goal.invariant-loop-kept
invariant-loop-kept l =
    (all_waited (bases_of (plan_of l.plan) l.scene) l.it l.held (drop l.kept-index l.values)
    ≡ all_waited (bases_of (plan_of l.plan) l.scene) l.it l.initial.held l.values)
    × (yielding (plan_of l.plan) l.scene l.it (drop l.kept-index l.values) l.held.temporaries l.pen
    ≡ yielding (plan_of l.plan) l.scene l.it l.values l.initial.held.temporaries l.initial.pen)
