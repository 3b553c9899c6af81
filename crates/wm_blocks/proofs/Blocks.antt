-- A statement of a depth is made of those of one level less.
use Rattle.std.proofs.Common.{◌≡◌, ℕ, zero, suc, refl}
use Rattle.wm_cursor.specs.Inputs.{Input}
use Rattle.wm_blocks.specs.Statements.{any, inner, statement}

pub statement_is : (depth : ℕ) (i : Input) → statement depth i ≡ any depth (inner depth) i
unfolding statement inner
statement_is zero i = refl
statement_is (suc depth) i = refl
