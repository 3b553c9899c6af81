use Rattle.std.proofs.Common.{◌≡◌, ◌++◌, drop}
use Rattle.wm_instances.specs.Instances.{views_in}
use Rattle.wm_instances.proofs.trees.views_in.Given as goal

abbrev pub invariant-loop-array : goal.invariant-loop-array
invariant-loop-array l = l.found ++ views_in l.number l.roots (drop l.array-index l.views) ≡ views_in l.number l.roots l.views
