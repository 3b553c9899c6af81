-- What is left is read behind what was found, as the whole list is.
use Rattle.std.proofs.Common.{◌≡◌, ◌-◌}
use Rattle.wm_cursor.specs.Inputs.{input_of}
use Rattle.wm_declarations.specs.Declarations.{more_values, values}
use Rattle.wm_declarations.proofs.declarations.values.Given as goal

abbrev pub invariant-loop-turn : goal.invariant-loop-turn
invariant-loop-turn l = values l.depth (input_of l.fn.tokens) ≡ more_values l.depth (l._turn-end - l._turn) l.found (input_of l.tokens)
