use Rattle.std.proofs.Common.{◌≡◌, ◌∙◌, sym, ap, subst, false, rules, arith}
use Rattle.std.proofs.lemmas.Grind.{common_steps}
use Rattle.wm_lang.specs.declared.expression.Expr.{Expr}
use Rattle.wm_cursor.specs.Inputs.{Reading, Reads, and_then, input_of, peek, position}
use Rattle.wm_expressions.specs.Expressions.{behind_first, deeper, is_operator, level}
use Rattle.wm_expressions.proofs.Levels.{alone, split}
use Rattle.wm_expressions.proofs.grammar.Grammar.chained.Goals as goal

pub returns-in_err-first : goal.returns-in_err-first
returns-in_err-first g c =
    let e = split c.args.self.now.depth (deeper c.args.self.now.depth) 6 (input_of c.args.tokens.now) in
    first_of (search rules, grind (arith, common_steps))

pub returns-then-not-is_operator : goal.returns-then-not-is_operator
returns-then-not-is_operator g c =
    let none : is_operator (peek (input_of c.operand.new.tokens)) ≡ false = cc in
    split c.args.self.now.depth (deeper c.args.self.now.depth) 6 (input_of c.args.tokens.now)
    ∙ ap (λ (r : Reading Expr). and_then r (λ first j. behind_first c.args.self.now.depth (deeper c.args.self.now.depth) 6 (position (input_of c.args.tokens.now)) first j)) c.in_ok-first.ensures
    ∙ alone c.args.self.now.depth (deeper c.args.self.now.depth) (position (input_of c.args.tokens.now)) c.in_ok-first.first (input_of c.operand.new.tokens) none 6

pub returns : goal.returns
returns g c =
    let all =
    split c.args.self.now.depth (deeper c.args.self.now.depth) 6 (input_of c.args.tokens.now)
    ∙ ap (λ (r : Reading Expr). and_then r (λ first j. behind_first c.args.self.now.depth (deeper c.args.self.now.depth) 6 (position (input_of c.args.tokens.now)) first j)) c.in_ok-first.ensures in
    subst (λ (r : Reading Expr). Reads r c.behind.result (input_of c.behind.new.tokens)) (sym all) (rw c.position-start.ensures at c.behind.ensures)
