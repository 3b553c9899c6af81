-- The loops of a body, each with the number of loops that are open inside it.
use Rattle.std.specs.Prelude.{ℕ, suc, List, [], ◌∷◌, ◌++◌}
use Rattle.wm_program.specs.Tree.{Tree, Skip, Seq, Block, Empty, Declare, Act, If, IfElse, For, While, Do, Break, Continue, Return, Leave}

-- each loop has a property with that number
module _ (P : (depth loop : ℕ) → Type 0) where
  abbrev pub Nested : (depth : ℕ) → Tree → Type 0
  Nested depth Skip = Unit {0}
  Nested depth (Seq first rest) = Nested depth first × Nested depth rest
  Nested depth (Block tree) = Nested depth tree
  Nested depth Empty = Unit {0}
  Nested depth (Declare fresh) = Unit {0}
  Nested depth (Act effect) = Unit {0}
  Nested depth (If is_counted test first) = Nested depth first
  Nested depth (IfElse is_counted test first is_else_counted otherwise) = Nested depth first × Nested depth otherwise
  Nested depth (For is_counted loop begin test after body) = P (suc depth) loop × Nested (suc depth) body
  Nested depth (While is_counted loop test body) = P (suc depth) loop × Nested (suc depth) body
  Nested depth (Do is_counted is_tail_counted loop body test) = P (suc depth) loop × Nested (suc depth) body
  Nested depth (Break is_counted) = Unit {0}
  Nested depth (Continue is_counted) = Unit {0}
  Nested depth (Return x narrowing) = Unit {0}
  Nested depth Leave = Unit {0}

-- the numbers alone, in the order of the loops
abbrev pub depths_of : (depth : ℕ) → Tree → List ℕ
depths_of depth Skip = []
depths_of depth (Seq first rest) = depths_of depth first ++ depths_of depth rest
depths_of depth (Block tree) = depths_of depth tree
depths_of depth Empty = []
depths_of depth (Declare fresh) = []
depths_of depth (Act effect) = []
depths_of depth (If is_counted test first) = depths_of depth first
depths_of depth (IfElse is_counted test first is_else_counted otherwise) = depths_of depth first ++ depths_of depth otherwise
depths_of depth (For is_counted loop begin test after body) = suc depth ∷ depths_of (suc depth) body
depths_of depth (While is_counted loop test body) = suc depth ∷ depths_of (suc depth) body
depths_of depth (Do is_counted is_tail_counted loop body test) = suc depth ∷ depths_of (suc depth) body
depths_of depth (Break is_counted) = []
depths_of depth (Continue is_counted) = []
depths_of depth (Return x narrowing) = []
depths_of depth Leave = []
