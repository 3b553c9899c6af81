use Rattle.std.proofs.Common.{◌≡◌, ◌++◌, drop, map}
use Rattle.wm_program.specs.Trees.{fresh_of}
use Rattle.wm_flow.specs.Statements.{scalars_made}
use Rattle.wm_control.proofs.made.push_scalars.Given as goal

abbrev pub invariant-loop-declared : goal.invariant-loop-declared
invariant-loop-declared l = l.list ++ scalars_made (map fresh_of (drop l.declared-index l.all)) ≡ l.initial.list ++ scalars_made (map fresh_of l.all)
