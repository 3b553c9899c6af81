use Rattle.std.proofs.Common.{◌≡◌, ◌++◌}
use Rattle.wm_gen.specs.Example.{variable_line, lines_to}
use Rattle.wm_gen.proofs.lines.push_variables.Given as goal

-- the lines so far
abbrev pub invariant-loop-before : goal.invariant-loop-before
invariant-loop-before l = l.text ≡ l.fn.text ++ lines_to variable_line l.before
