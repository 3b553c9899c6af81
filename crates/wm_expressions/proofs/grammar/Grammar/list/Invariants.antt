-- What is left is read behind what was found, as the whole list is.
use Rattle.std.proofs.Common.{◌≡◌, ◌-◌}
use Rattle.wm_expressions.specs.declared.grammar.Reach.TheVariants.{Whole}
use Rattle.wm_cursor.specs.Inputs.{input_of}
use Rattle.wm_expressions.specs.Expressions.{commas, deeper, list}
use Rattle.wm_expressions.proofs.grammar.Grammar.list.Given as goal

abbrev pub invariant-loop-turn : goal.invariant-loop-turn
invariant-loop-turn g l = list (deeper l.self.depth) (input_of l.fn.tokens) ≡ commas (deeper l.self.depth Whole) (l._turn-end - l._turn) l.found (input_of l.tokens)
