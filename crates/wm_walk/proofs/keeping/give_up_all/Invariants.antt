use Rattle.std.proofs.Common.{◌≡◌, drop}
use Rattle.wm_walk.specs.Keeping.{without_all}
use Rattle.wm_walk.proofs.keeping.give_up_all.Given as goal

-- what is left
abbrev pub invariant-loop-node : goal.invariant-loop-node
invariant-loop-node g l = without_all (drop l.node-index l.nodes) l.kept.1 ≡ without_all l.nodes l.fn.kept.1
