-- A function value that reads statements with fewer levels left than a number.
use Rattle.std.specs.Prelude.{ℕ, ◌<◌, Result}
use Rattle.std.specs.declared.alloc.Global.{Global}
use denote.Ref.{MutBor}
use Rattle.wm_lang.specs.declared.statement.Statement.{Statement}
use Rattle.wm_cursor.specs.declared.fault.ParseFault.{ParseFault}
use Rattle.wm_cursor.specs.declared.token.Tokens.{Tokens}
use Rattle.wm_cursor.specs.Inputs.{Reads, input_of}
use Rattle.wm_blocks.specs.Statements.{statement}

pub record Holds (depth : ℕ) (pre : Global → MutBor Tokens → ℕ → Type 0)
    (post : Global → MutBor Tokens → ℕ → Result Statement ParseFault → MutBor Tokens → Type 0) : Type 0 where
  pub callable : (alloc : Global) (old : MutBor Tokens) (inner : ℕ) → inner < depth → pre alloc old inner
  pub reads : (alloc : Global) (old new : MutBor Tokens) (inner : ℕ) (r : Result Statement ParseFault) → post alloc old inner r new
      → Reads (statement inner (input_of old.now)) r (input_of new.now)
