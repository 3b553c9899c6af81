-- What is left is drawn behind what has been drawn, as the whole list is.
use Rattle.std.proofs.Common.{◌≡◌, drop, map}
use Rattle.wm_flow.specs.Expressions.{no_values}
use Rattle.wm_program.specs.UsedParts.{plain_value, plain_passed, plain_link}
use Rattle.wm_places.specs.Seen.{plan_of}
use Rattle.wm_values.specs.Turns.{linked_all, linking_all, argued_all, arguing_all, handed_all, handing_all}
use Rattle.wm_values.proofs.trees.+expression.Given as goal

abbrev pub invariant-links-loop-part : goal.invariant-links-loop-part
invariant-links-loop-part l =
    (linked_all (plan_of l.plan) l.scene (map plain_link (drop l.part-index l.part-items)) l.kept l.temporaries
    ≡ linked_all (plan_of l.plan) l.scene (map plain_link l.rest) l.fn.first l.temporaries)
    × (linking_all (plan_of l.plan) l.scene (map plain_link (drop l.part-index l.part-items)) l.kept l.temporaries l.pen
    ≡ linking_all (plan_of l.plan) l.scene (map plain_link l.rest) l.fn.first l.temporaries l.fn.pen)

abbrev pub invariant-operands-loop-part : goal.invariant-operands-loop-part
invariant-operands-loop-part l =
    (argued_all (plan_of l.plan) l.scene (map plain_value (drop l.part-index l.part-items)) l.held
    ≡ argued_all (plan_of l.plan) l.scene (map plain_value l.arguments) (no_values (plan_of l.plan) l.scene l.temporaries))
    × (arguing_all (plan_of l.plan) l.scene (map plain_value (drop l.part-index l.part-items)) l.held l.pen
    ≡ arguing_all (plan_of l.plan) l.scene (map plain_value l.arguments) (no_values (plan_of l.plan) l.scene l.temporaries) l.fn.pen)

abbrev pub invariant-passed-loop-part : goal.invariant-passed-loop-part
invariant-passed-loop-part l =
    (handed_all (plan_of l.plan) l.scene (map plain_passed (drop l.part-index l.part-items)) l.held
    ≡ handed_all (plan_of l.plan) l.scene (map plain_passed l.arguments) (no_values (plan_of l.plan) l.scene l.temporaries))
    × (handing_all (plan_of l.plan) l.scene (map plain_passed (drop l.part-index l.part-items)) l.held l.pen
    ≡ handing_all (plan_of l.plan) l.scene (map plain_passed l.arguments) (no_values (plan_of l.plan) l.scene l.temporaries) l.fn.pen)
