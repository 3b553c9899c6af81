use Rattle.std.proofs.Common.{◌≡◌, ◌++◌, drop}
use Rattle.wm_program.specs.UsedParts.{tree_all}
use Rattle.wm_flow.specs.Statements.{made_in}
use Rattle.wm_control.proofs.made.made_in.Given as goal

abbrev pub invariant-loop-statement : goal.invariant-loop-statement
invariant-loop-statement l = l.made ++ made_in (tree_all (drop l.statement-index l.list)) ≡ made_in (tree_all l.list)
