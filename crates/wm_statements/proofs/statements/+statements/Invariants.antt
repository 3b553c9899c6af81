-- What is left is drawn behind what has been drawn, as the whole list is.
use Rattle.std.proofs.Common.{◌≡◌, drop, map}
use Rattle.wm_program.specs.Trees.{tree_of}
use Rattle.wm_places.specs.Seen.{plan_of}
use Rattle.wm_control.specs.Seen.{around_of}
use Rattle.wm_statements.specs.Moves.{moving_all}
use Rattle.wm_statements.proofs.statements.+statements.Given as goal

abbrev pub invariant-all-loop-it : goal.invariant-all-loop-it
invariant-all-loop-it l =
    moving_all (plan_of l.plan) l.scene (around_of l.around) (map tree_of (drop l.it-index l.it-items)) l.pen
    ≡ moving_all (plan_of l.plan) l.scene (around_of l.around) (map tree_of l.list) l.fn.pen
