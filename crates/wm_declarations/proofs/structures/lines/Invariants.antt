-- The lines that are left are read behind those that were found, as all are.
use Rattle.std.proofs.Common.{◌≡◌, ◌-◌}
use Rattle.wm_cursor.specs.Inputs.{input_of}
use Rattle.wm_declarations.specs.Structures.{lines, more_lines}
use Rattle.wm_declarations.proofs.structures.lines.Given as goal

abbrev pub invariant-loop-turn : goal.invariant-loop-turn
invariant-loop-turn l = lines l.depth (input_of l.fn.tokens) ≡ more_lines l.depth (l._turn-end - l._turn) l.found (input_of l.tokens)
