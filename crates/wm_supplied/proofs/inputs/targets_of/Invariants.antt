use Rattle.std.proofs.Common.{◌≡◌, ◌++◌, drop, map}
use Rattle.wm_flow.specs.declared.action.Given.{Given}
use Rattle.wm_supplied.proofs.inputs.targets_of.Given as goal

abbrev pub invariant-loop-it : goal.invariant-loop-it
invariant-loop-it l = l.targets.items ++ map (λ (g : Given). g.target) (drop l.it-index l.scalars) ≡ map (λ (g : Given). g.target) l.scalars
