use Rattle.std.proofs.Common.{◌≡◌, ◌++◌, drop}
use Rattle.wm_places.specs.Seen.{plan_of}
use Rattle.wm_flow.specs.Statements.{variables_of}
use Rattle.wm_control.proofs.blocks.variables_of.Given as goal

abbrev pub invariant-loop-local : goal.invariant-loop-local
invariant-loop-local l = l.list ++ variables_of (plan_of l.plan) l.scene (drop l.local-index l.locals) ≡ variables_of (plan_of l.plan) l.scene l.locals
