-- The bodies so far, and those of the edges that are left.
use Rattle.std.proofs.Common.{◌≡◌, ◌++◌, ◌+◌, ◌*◌, ◌-◌, drop}
use Rattle.wm_path.specs.Fields.{seen}
use Rattle.wm_path.specs.Bodies.{bodies_by, body_of}
use Rattle.wm_path.proofs.bodies.+bodies.Given as goal

abbrev pub invariant-bodies_of-loop-number : goal.invariant-bodies_of-loop-number
invariant-bodies_of-loop-number l = l.bodies ++ bodies_by (body_of (l.levels - 1) (seen l.field)) (seen l.field) (drop l.number-index l.edges) ≡ bodies_by (body_of (l.levels - 1) (seen l.field)) (seen l.field) l.edges

abbrev pub decreases-body_of : goal.decreases-body_of
decreases-body_of l = 2 * l.levels + 1

abbrev pub decreases-bodies_of : goal.decreases-bodies_of
decreases-bodies_of l = 2 * l.levels
