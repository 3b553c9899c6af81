-- The words that are left are read behind those that were, as all are.
use Rattle.std.proofs.Common.{◌≡◌, ◌-◌}
use Rattle.wm_cursor.specs.Inputs.{input_of}
use Rattle.wm_declarations.specs.Declarations.{more_words, words}
use Rattle.wm_declarations.proofs.declarations.words.Given as goal

abbrev pub invariant-loop-turn : goal.invariant-loop-turn
invariant-loop-turn l = words l.is_outside (input_of l.fn.tokens) ≡ more_words l.is_outside (l._turn-end - l._turn) l.words (input_of l.tokens)
