use Rattle.std.proofs.Common.{◌≡◌, ◌-◌, rules, arith}
use Rattle.std.proofs.lemmas.Grind.{common_steps}
use Rattle.wm_cursor.specs.Inputs.{input_of}
use Rattle.wm_expressions.specs.Expressions.{chain, deeper, level}
use Rattle.wm_expressions.proofs.Turns.{one_more, no_more}
use Rattle.wm_expressions.proofs.Levels.{level_is}
use Rattle.wm_expressions.proofs.grammar.Grammar.+level.Goals as goal

pub returns-then-level-eq0 : goal.returns-then-level-eq0
unfolding level
returns-then-level-eq0 g t c = let none : c.args.level ≡ 0 = omega arith in rw none c.operand.ensures

pub returns-in_err-whole : goal.returns-in_err-whole
returns-in_err-whole g t c =
    let e = level_is c.args.self.now.depth (deeper c.args.self.now.depth) c.args.level (input_of c.args.tokens.now) (omega arith) in
    first_of (search rules, grind (arith, common_steps))

pub loop-turn-init : goal.loop-turn-init
loop-turn-init g t c =
    let e = level_is c.args.self.now.depth (deeper c.args.self.now.depth) c.args.level (input_of c.args.tokens.now) (omega arith) in
    first_of (search rules, grind (arith, common_steps))

pub returns-in_default : goal.returns-in_default
unfolding chain
returns-in_default g t c =
    let e = one_more (λ n. chain c.args.self.now.depth (deeper c.args.self.now.depth) (level c.args.self.now.depth (deeper c.args.self.now.depth) (c.args.level - 1)) c.args.level c.position-start.result n c.loop-turn.whole (input_of c.loop-turn.tokens)) _ c.loop-turn._turn c.loop-turn-test.true c.loop-turn.invariant in
    first_of (search rules, grind (arith, common_steps))

pub returns-in_err-operand : goal.returns-in_err-operand
unfolding chain
returns-in_err-operand g t c =
    let e = one_more (λ n. chain c.args.self.now.depth (deeper c.args.self.now.depth) (level c.args.self.now.depth (deeper c.args.self.now.depth) (c.args.level - 1)) c.args.level c.position-start.result n c.loop-turn.whole (input_of c.loop-turn.tokens)) _ c.loop-turn._turn c.loop-turn-test.true c.loop-turn.invariant in
    first_of (search rules, grind (arith, common_steps))

pub loop-turn-preserved : goal.loop-turn-preserved
unfolding chain
loop-turn-preserved g t c =
    let e = one_more (λ n. chain c.args.self.now.depth (deeper c.args.self.now.depth) (level c.args.self.now.depth (deeper c.args.self.now.depth) (c.args.level - 1)) c.args.level c.position-start.result n c.loop-turn.whole (input_of c.loop-turn.tokens)) _ c.loop-turn._turn c.loop-turn-test.true c.loop-turn.invariant in
    first_of (search rules, grind (arith, common_steps))

pub returns : goal.returns
unfolding chain
returns g t c =
    let e = no_more (λ n. chain c.args.self.now.depth (deeper c.args.self.now.depth) (level c.args.self.now.depth (deeper c.args.self.now.depth) (c.args.level - 1)) c.args.level c.position-start.result n c.loop-turn.whole (input_of c.loop-turn.tokens)) _ c.loop-turn._turn c.loop-turn-test.false c.loop-turn.invariant in
    first_of (search rules, grind (arith, common_steps))
