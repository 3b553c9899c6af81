-- The items that are left are read behind those that were found, as all are.
use Rattle.std.proofs.Common.{◌≡◌, ◌-◌}
use Rattle.wm_cursor.specs.Inputs.{input_of}
use Rattle.wm_parse.specs.Units.{items, more_items}
use Rattle.wm_parse.proofs.reading.items.Given as goal

abbrev pub invariant-loop-turn : goal.invariant-loop-turn
invariant-loop-turn l = items (input_of l.fn.tokens) ≡ more_items (l._turn-end - l._turn) l.found (input_of l.tokens)
