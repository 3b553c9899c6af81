-- A function value that reads expressions with fewer levels left than a number.
use Rattle.std.specs.Prelude.{ℕ, ◌<◌, Result}
use Rattle.std.specs.declared.alloc.Global.{Global}
use denote.Ref.{MutBor}
use Rattle.wm_lang.specs.declared.expression.Expr.{Expr}
use Rattle.wm_cursor.specs.declared.fault.ParseFault.{ParseFault}
use Rattle.wm_expressions.specs.declared.grammar.Reach.{Reach}
use Rattle.wm_cursor.specs.declared.token.Tokens.{Tokens}
use Rattle.wm_cursor.specs.Inputs.{Reads, input_of}
use Rattle.wm_expressions.specs.Expressions.{expression}

pub record Nests (depth : ℕ) (pre : Global → MutBor Tokens → ℕ → Reach → Type 0)
    (post : Global → MutBor Tokens → ℕ → Reach → Result Expr ParseFault → MutBor Tokens → Type 0) : Type 0 where
  pub callable : (alloc : Global) (old : MutBor Tokens) (inner : ℕ) (reach : Reach) → inner < depth → pre alloc old inner reach
  pub reads : (alloc : Global) (old new : MutBor Tokens) (inner : ℕ) (reach : Reach) (r : Result Expr ParseFault) → post alloc old inner reach r new
      → Reads (expression inner reach (input_of old.now)) r (input_of new.now)
