-- What is left is read behind what was found, as the whole list is.
use Rattle.std.proofs.Common.{◌≡◌, ◌-◌}
use Rattle.wm_cursor.specs.Inputs.{input_of}
use Rattle.wm_expressions.specs.Expressions.{commas}
use Rattle.wm_parse.specs.Functions.{list, parameter}
use Rattle.wm_parse.proofs.function.list.Given as goal

abbrev pub invariant-loop-turn : goal.invariant-loop-turn
invariant-loop-turn l = list l.depth (input_of l.fn.tokens) ≡ commas (parameter l.depth) (l._turn-end - l._turn) l.found (input_of l.tokens)
