use Rattle.wm_blocks.proofs.nesting.+statement.Given as goal

abbrev pub decreases-statement : goal.decreases-statement
decreases-statement l = l.depth
