-- What is left of the block is read behind what was found, as all of it is.
use Rattle.std.proofs.Common.{◌≡◌, ◌-◌}
use Rattle.wm_cursor.specs.Inputs.{input_of}
use Rattle.wm_blocks.specs.Statements.{inner, items, more_items}
use Rattle.wm_blocks.proofs.nesting.Nesting.items.Given as goal

abbrev pub invariant-loop-turn : goal.invariant-loop-turn
invariant-loop-turn g l = items l.self.depth (inner l.self.depth) (input_of l.fn.tokens) ≡ more_items l.self.depth (inner l.self.depth) (l._turn-end - l._turn) l.found (input_of l.tokens)
