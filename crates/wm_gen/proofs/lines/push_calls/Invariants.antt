use Rattle.std.proofs.Common.{◌≡◌, ◌++◌}
use Rattle.wm_gen.specs.Example.{call_line, lines_to}
use Rattle.wm_gen.proofs.lines.push_calls.Given as goal

-- the lines so far
abbrev pub invariant-loop-before : goal.invariant-loop-before
invariant-loop-before l = l.text ≡ l.fn.text ++ lines_to call_line l.before
