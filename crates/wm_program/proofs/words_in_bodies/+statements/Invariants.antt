-- What was found so far and what is left give what all gives.
use Rattle.std.proofs.Common.{◌≡◌, drop}
use Rattle.wm_program.specs.UsedParts.{tree_all}
use Rattle.wm_program.specs.Used.{in_tree}
use Rattle.wm_program.proofs.words_in_bodies.+statements.Given as goal

abbrev pub invariant-in_statements-loop-statement : goal.invariant-in_statements-loop-statement
invariant-in_statements-loop-statement l = in_tree l.word (tree_all (drop l.statement-index l.statement-items)) l.found ≡ in_tree l.word (tree_all l.statements) l.fn.found
