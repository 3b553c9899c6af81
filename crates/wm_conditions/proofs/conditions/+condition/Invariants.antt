-- What is left is drawn behind what has been drawn, as the whole list is.
use Rattle.std.proofs.Common.{◌≡◌, drop, map, length}
use Rattle.wm_program.specs.Trees.{test_of}
use Rattle.wm_places.specs.Seen.{plan_of}
use Rattle.wm_conditions.specs.Steps.{following}
use Rattle.wm_conditions.proofs.conditions.+condition.Given as goal

abbrev pub invariant-others-loop-c : goal.invariant-others-loop-c
invariant-others-loop-c l =
    (l.left ≡ length (drop l.c-index l.c-items))
    × (following (plan_of l.plan) l.scene l.any (map test_of (drop l.c-index l.c-items)) l.hit l.miss l.pen
    ≡ following (plan_of l.plan) l.scene l.any (map test_of l.rest) l.hit l.miss l.fn.pen)
