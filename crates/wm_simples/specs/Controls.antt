-- The parts of control statements that hold no statement, where this many more levels may be opened.
use Rattle.std.specs.Prelude.{ℕ, ◌-◌, Bool, if◌then◌else◌, List, [], Option, Some, None}
use Rattle.wm_lang.specs.declared.expression.Expr.{Expr}
use Rattle.wm_lang.specs.declared.statement.Simple.{Simple}
use Rattle.wm_lang.specs.declared.statement.Statement.{Statement}
use Rattle.wm_lang.specs.declared.statement.Statement.TheVariants as s
use Rattle.wm_lang.specs.declared.statement.Word.{Word}
use Rattle.wm_lang.specs.declared.token.Punct.{Punct}
use Rattle.wm_lang.specs.declared.token.Punct.TheVariants as punct
use Rattle.wm_simples.specs.declared.controls.ForHead.{ForHead}
use Rattle.wm_cursor.specs.Inputs.{Reader, ◌>>=◌, ◌>>◌, ◌<$>◌, pure, refuse, take, eat, seeing, enter, expect, peek}
use Rattle.wm_expressions.specs.Expressions.{whole}
use Rattle.wm_simples.specs.Simples.{simples}
use Rattle.wm_cursor.specs.Words.{while_of}

-- A control word, which comes next. What stands behind it opens a level.
unfoldable pub control : ℕ → Bool → Reader Word
control depth is_counted = (λ at. record { is_counted = is_counted; at = at }) <$> enter depth

unfoldable pub condition : ℕ → Reader Expr
condition depth = do
  expect punct.LeftParenthesis
  found ← whole (depth - 1)
  expect punct.RightParenthesis
  pure found

-- a control word, which comes next, and the condition behind it
unfoldable pub tested : ℕ → Bool → Reader (Word × Expr)
tested depth is_counted = do
  word ← control depth is_counted
  found ← condition depth
  pure (word, found)

-- assignments, steps and calls, unless this mark comes at once
unfoldable pub simples_before : ℕ → Punct → Reader (List Simple)
simples_before depth mark = do
  is_empty ← seeing mark
  if is_empty then pure [] else simples depth

-- an expression, unless a `;` comes at once; and the `;`
unfoldable pub value : ℕ → Reader (Option Expr)
value depth = do
  is_empty ← eat punct.Semicolon
  if is_empty then pure None else (do found ← whole depth; expect punct.Semicolon; pure (Some found))

-- the three parts of a for loop behind the `(`, and the `)`
unfoldable pub for_parts : ℕ → Reader ForHead
for_parts depth = do
  begin ← simples_before depth punct.Semicolon
  expect punct.Semicolon
  found ← value depth
  step ← simples_before depth punct.RightParenthesis
  expect punct.RightParenthesis
  pure (record { begin = begin; condition = found; step = step })

unfoldable pub for_head : ℕ → Reader ForHead
for_head depth = expect punct.LeftParenthesis >> for_parts (depth - 1)

abbrev pub tail_by : Option Bool → Reader Word
tail_by (Some is_counted) = (λ at. record { is_counted = is_counted; at = at }) <$> take
tail_by None = refuse

-- the `while` behind the body of a do loop
unfoldable pub tail : Reader Word
tail = λ i. tail_by (while_of (peek i)) i

-- a `break` or a `continue`, which comes next, and the `;` behind it
unfoldable pub leap : Bool → Reader Word
leap is_counted = do
  at ← take
  expect punct.Semicolon
  pure (record { is_counted = is_counted; at = at })

-- a `return`, which comes next, with its value
unfoldable pub returned : ℕ → Reader Statement
returned depth = do
  at ← take
  s.Return at <$> value depth
