-- A level above the operands is a first operand and the operators of the level behind it; all levels together are a first operand and
-- the operators of all levels behind it.
use Rattle.std.proofs.Common.{◌≡◌, ℕ, zero, suc, ◌-◌, ◌<◌, Bool, true, false, Option, Some, None, Ok, Err, refl, sym, ap, ◌∙◌, arith}
use Rattle.wm_lang.specs.declared.expression.Expr.{Expr}
use Rattle.wm_lang.specs.declared.place.Position.{Position}
use Rattle.wm_expressions.specs.declared.grammar.Reach.{Reach}
use Rattle.wm_cursor.specs.declared.operator.Binary.{Binary}
use Rattle.wm_cursor.specs.declared.token.Next.{Next}
use Rattle.wm_cursor.specs.declared.token.Next.TheVariants as next
use Rattle.wm_cursor.specs.Inputs.{Input, Reader, Reading, and_then, count, peek, position}
use Rattle.wm_cursor.specs.Operators.{binary_at, binary_of, leveled}
use Rattle.wm_expressions.specs.Expressions.{behind_first, chain, chain_by, deeper, expression, is_binary, is_operator, level, operand, reached}

pub level_is : (depth : ℕ) (inside : Reach → Reader Expr) (n : ℕ) (i : Input) → 0 < n
    → level depth inside n i ≡ and_then (level depth inside (n - 1) i) (λ first j. chain depth inside (level depth inside (n - 1)) n (position i) (count j) first j)
unfolding level
level_is depth inside zero i some = absurd (omega arith)
level_is depth inside (suc n) i some = let e : suc n - 1 ≡ n = omega arith in rw e refl

-- an expression of a depth is made of those of one level less
pub expression_is : (depth : ℕ) (reach : Reach) (i : Input) → expression depth reach i ≡ reached depth (deeper depth) reach i
unfolding expression deeper
expression_is zero reach i = refl
expression_is (suc depth) reach i = refl

module _ (depth : ℕ) (inside : Reach → Reader Expr) (start : Position) (first : Expr) where
  pub behind_is : (n : ℕ) (i : Input) → 0 < n
      → behind_first depth inside n start first i ≡ and_then (behind_first depth inside (n - 1) start first i) (λ whole j. chain depth inside (level depth inside (n - 1)) n start (count j) whole j)
  unfolding behind_first
  behind_is zero i some = absurd (omega arith)
  behind_is (suc n) i some = let e : suc n - 1 ≡ n = omega arith in rw e refl

-- what is read after what was read, and then more
and_then_twice : {A B C : Type 0} (r : Reading A) (f : A → Reader B) (h : B → Reader C) → and_then (and_then r f) h ≡ and_then r (λ a j. and_then (f a j) h)
and_then_twice (Ok p) f h = refl
and_then_twice (Err token) f h = refl

and_then_pure : {A : Type 0} (r : Reading A) → r ≡ and_then r (λ a j. Ok (a, j))
and_then_pure (Ok p) = refl
and_then_pure (Err token) = refl

module _ (depth : ℕ) (inside : Reach → Reader Expr) where
  -- a level is a first operand, and the operators of this level and of those below it
  pub split : (n : ℕ) (i : Input) → level depth inside n i ≡ and_then (operand depth inside i) (λ first j. behind_first depth inside n (position i) first j)
  unfolding level behind_first
  split zero i = and_then_pure (operand depth inside i)
  split (suc n) i =
      let more : Expr → Reader Expr = λ first j. chain depth inside (level depth inside n) (suc n) (position i) (count j) first j in
      ap (λ (r : Reading Expr). and_then r more) (split n i)
      ∙ and_then_twice (operand depth inside i) (λ first j. behind_first depth inside n (position i) first j) more

-- no operator of any level comes next where no mark of one does
leveled_none : (n : ℕ) (found : Option Binary) → is_binary found ≡ false → leveled n found ≡ None
leveled_none n None nothing = refl
leveled_none n (Some found) nothing = absurd cc

pub no_operator : (n : ℕ) (next : Next) → is_operator next ≡ false → binary_of n next ≡ None
unfolding is_operator binary_of
no_operator n next.End nothing = refl
no_operator n next.Name nothing = refl
no_operator n (next.Number value) nothing = refl
no_operator n (next.Key key) nothing = refl
no_operator n (next.Mark mark) nothing = leveled_none n (binary_at mark) nothing

module _ (depth : ℕ) (inside : Reach → Reader Expr) (start : Position) (first : Expr) (i : Input) (none : is_operator (peek i) ≡ false) where
  ended : (n turns : ℕ) (lower : Reader Expr) → chain depth inside lower n start turns first i ≡ Ok (first, i)
  unfolding chain
  ended n zero lower = refl
  ended n (suc turns) lower =
      ap (λ (o : Option Binary). chain_by depth inside (chain depth inside lower n start turns) lower start first o i) (no_operator n (peek i) none)

  -- where no operator comes next, the first operand is all
  pub alone : (n : ℕ) → behind_first depth inside n start first i ≡ Ok (first, i)
  unfolding behind_first
  alone zero = refl
  alone (suc n) =
      ap (λ (r : Reading Expr). and_then r (λ whole j. chain depth inside (level depth inside n) (suc n) start (count j) whole j)) (alone n)
      ∙ ended (suc n) (count i) (level depth inside n)
