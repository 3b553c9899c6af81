use Rattle.std.proofs.Common.{◌≡◌, ◌-◌, drop}
use Rattle.wm_instances.specs.Instances.{grown, grown_each, grown_by}
use Rattle.wm_instances.proofs.trees.+grow.Given as goal

abbrev pub decreases-grow : goal.decreases-grow
decreases-grow l = l.depth

abbrev pub invariant-loop-place : goal.invariant-loop-place
invariant-loop-place l =
    grown_each (grown_by (l.depth - 1) l.calls l.number l.roots.items) (drop l.place-index l.place-items) l.made
    ≡ grown l.fn.depth l.fn.calls l.fn.info l.fn.made
