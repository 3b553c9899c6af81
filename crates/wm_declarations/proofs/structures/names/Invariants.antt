-- What is left is read behind what was found, as the whole list is.
use Rattle.std.proofs.Common.{◌≡◌, ◌-◌}
use Rattle.wm_cursor.specs.Inputs.{identifier, input_of}
use Rattle.wm_expressions.specs.Expressions.{commas}
use Rattle.wm_declarations.specs.Structures.{names}
use Rattle.wm_declarations.proofs.structures.names.Given as goal

abbrev pub invariant-loop-turn : goal.invariant-loop-turn
invariant-loop-turn l = names (input_of l.fn.tokens) ≡ commas identifier (l._turn-end - l._turn) l.found (input_of l.tokens)
