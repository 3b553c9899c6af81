use Rattle.std.proofs.Common.{arith}
use Rattle.wm_lex.proofs.LineSteps.{lengths_differ}
use Rattle.wm_lex.proofs.directive.are_lexemes.Goals as goal

pub returns-then-lexemes-pieces : goal.returns-then-lexemes-pieces
returns-then-lexemes-pieces c = lengths_differ c.args.lexemes.now c.args.pieces.now (λ e. omega (arith, e))
