-- The productions of a statement.
use Rattle.std.specs.Prelude.{ℕ, zero, suc, ◌-◌, Bool, if◌then◌else◌, List, [], ◌∷◌, ◌++◌, Option, Some, None}
use Rattle.wm_lang.specs.declared.statement.Block.{Block}
use Rattle.wm_lang.specs.declared.statement.BlockItem.{BlockItem}
use Rattle.wm_lang.specs.declared.statement.BlockItem.TheVariants as held
use Rattle.wm_lang.specs.declared.statement.Otherwise.{Otherwise}
use Rattle.wm_lang.specs.declared.statement.Statement.{Statement}
use Rattle.wm_lang.specs.declared.statement.Statement.TheVariants as s
use Rattle.wm_lang.specs.declared.token.Punct.TheVariants as punct
use Rattle.wm_cursor.specs.declared.word.Lead.{Lead}
use Rattle.wm_cursor.specs.declared.word.Lead.TheVariants as lead
use Rattle.wm_cursor.specs.Inputs.{Reader, ◌>>=◌, ◌>>◌, ◌<$>◌, pure, refuse, take, seeing, enter, expect, peek, count}
use Rattle.wm_simples.specs.Simples.{simple}
use Rattle.wm_declarations.specs.Declarations.{declaration}
use Rattle.wm_simples.specs.Controls.{control, condition, for_head, tail, leap, returned, tested}
use Rattle.wm_cursor.specs.Words.{else_of, is_declaration, lead_of}

-- an assignment, a step or a call, and the `;` behind it
unfoldable pub plain : ℕ → Reader Statement
plain depth = do
  found ← simple depth
  expect punct.Semicolon
  pure (s.Simple found)

-- the else of an if, if there is one: it belongs to the nearest if
abbrev pub otherwise_by : Reader Statement → Option Bool → Reader (Option (Otherwise Statement))
otherwise_by inner None = pure None
otherwise_by inner (Some is_counted) = do
  at ← take
  body ← inner
  pure (Some (record { word = record { is_counted = is_counted; at = at }; body = body }))

unfoldable pub otherwise : Reader Statement → Reader (Option (Otherwise Statement))
otherwise inner = λ i. otherwise_by inner (else_of (peek i)) i

-- the statement of an if, and its else
unfoldable pub branches : Reader Statement → Reader (Statement × Option (Otherwise Statement))
branches inner = do
  then_part ← inner
  else_part ← otherwise inner
  pure (then_part, else_part)

-- The number is that of the levels that may still be opened, and the reader that of statements inside one more level.
module _ (depth : ℕ) (inner : Reader Statement) where
  unfoldable pub conditional : Bool → Reader Statement
  conditional is_counted = do
    front ← tested depth is_counted
    parts ← branches inner
    pure (s.If front.0 front.1 parts.0 parts.1)

  unfoldable pub for_loop : Bool → Reader Statement
  for_loop is_counted = do
    word ← control depth is_counted
    head ← for_head depth
    body ← inner
    pure (s.For word head.begin head.condition head.step body)

  unfoldable pub while_loop : Bool → Reader Statement
  while_loop is_counted = do
    word ← control depth is_counted
    test ← condition depth
    body ← inner
    pure (s.While word test body)

  unfoldable pub do_loop : Bool → Reader Statement
  do_loop is_counted = do
    word ← control depth is_counted
    body ← inner
    last ← tail
    test ← condition depth
    expect punct.Semicolon
    pure (s.Do word body last test)

  -- what stands in a block: the levels that are left are those in front of the block
  unfoldable pub item : Reader (BlockItem Statement)
  item = λ i. if is_declaration (peek i) then (held.Declaration <$> declaration (depth - 1)) i else (held.Statement <$> inner) i

  -- what stands in a block, up to the `}`; the number bounds the turns, and each turn takes a token
  abbrev pub more_items : ℕ → List (BlockItem Statement) → Reader (List (BlockItem Statement))
  more_items zero found = pure found
  more_items (suc turns) found = do
    is_last ← seeing punct.RightBrace
    if is_last then pure found else (do next ← item; more_items turns (found ++ next ∷ []))

  unfoldable pub items : Reader (List (BlockItem Statement))
  items = λ i. more_items (count i) [] i

  -- a block, of which the next token is the `{`
  unfoldable pub block : Reader (Block Statement)
  block = do
    first ← enter depth
    found ← items
    last ← expect punct.RightBrace
    pure (record { first = first; items = found; last = last })

  abbrev pub any_by : Lead → Reader Statement
  any_by lead.Block = s.Block <$> block
  any_by lead.Empty = s.Empty <$> take
  any_by (lead.If is_counted) = conditional is_counted
  any_by (lead.For is_counted) = for_loop is_counted
  any_by (lead.While is_counted) = while_loop is_counted
  any_by (lead.Do is_counted) = do_loop is_counted
  any_by (lead.Break is_counted) = s.Break <$> leap is_counted
  any_by (lead.Continue is_counted) = s.Continue <$> leap is_counted
  any_by lead.Return = returned depth
  any_by lead.Other = plain depth

  -- a statement
  unfoldable pub any : Reader Statement
  any = λ i. any_by (lead_of (peek i)) i

-- a statement, where this many more levels may be opened
unfoldable pub statement : ℕ → Reader Statement
statement zero = any zero refuse
statement (suc depth) = any (suc depth) (statement depth)

-- the same with one of the levels that are left open
unfoldable pub inner : ℕ → Reader Statement
inner zero = refuse
inner (suc depth) = statement depth

abbrev pub block_at : ℕ → Reader (Block Statement)
block_at depth = block depth (inner depth)
