-- The operators that are left are read behind what was read, as the whole chain is.
use Rattle.std.proofs.Common.{◌≡◌, ◌-◌}
use Rattle.wm_cursor.specs.Inputs.{input_of}
use Rattle.wm_expressions.specs.Expressions.{behind_first, chain, deeper, level}
use Rattle.wm_expressions.proofs.grammar.Grammar.+behind.Given as goal

abbrev pub decreases-behind : goal.decreases-behind
decreases-behind g l = l.level

abbrev pub invariant-loop-turn : goal.invariant-loop-turn
invariant-loop-turn g l =
    behind_first l.self.depth (deeper l.self.depth) l.level l.start l.fn.first (input_of l.fn.tokens)
    ≡ chain l.self.depth (deeper l.self.depth) (level l.self.depth (deeper l.self.depth) (l.level - 1)) l.level l.start (l._turn-end - l._turn) l.whole (input_of l.tokens)
