-- An expression of a source as plain data. A chain of operators of one level has its operators in a list.
use Rattle.std.specs.Prelude.{ℕ, ℤ, List}
use Rattle.wm_lang.specs.declared.expression.BaseType.{BaseType}
use Rattle.wm_lang.specs.declared.expression.Identifier.{Identifier}
use Rattle.wm_lang.specs.declared.expression.UnaryMark.{UnaryMark}
use Rattle.wm_lang.specs.declared.place.Position.{Position}

-- the operators of C between two operands
pub data Mark : Type 0 where
  Either : Mark
  Both : Mark
  Equal : Mark
  NotEqual : Mark
  Less : Mark
  LessEqual : Mark
  Greater : Mark
  GreaterEqual : Mark
  Plus : Mark
  Minus : Mark
  Times : Mark
  Divide : Mark

-- the levels of chains
pub data Level : Type 0 where
  Disjunction : Level
  Conjunction : Level
  Comparisons : Level
  Sums : Level
  Products : Level

mutual
  pub data Source : Type 0 where
    Chain : Level → (at : Position) → (first : Source) → Parts → Source
    Unary : UnaryMark → (at : Position) → Source → Source
    Cast : (at : Position) → BaseType → Source → Source
    Number : (at : Position) → ℤ → Source
    Scalar : (at : Position) → (name : Identifier) → Source
    Element : (at : Position) → (name : Identifier) → (bracket : Position) → (index : Source) → Source
    Pointed : (at : Position) → (star : Position) → (name : Identifier) → Source
    Member : (at : Position) → (object : Identifier) → Source
    Call : (name : Identifier) → Sources → Source
    Parenthesis : (at : Position) → Source → Source
    -- `&v` and `&a[e]`
    AddressOf : (at : Position) → (name : Identifier) → Source
    AddressOfElement : (at : Position) → (name : Identifier) → (bracket : Position) → (index : Source) → Source
    -- `&` before anything else
    AddressOfOther : (at : Position) → (object : Identifier) → Source

  -- each operator with the operand behind it
  pub data Parts : Type 0 where
    End : Parts
    Part : Mark → (at : Position) → (operand : Source) → Parts → Parts

  pub data Sources : Type 0 where
    None : Sources
    More : Source → Sources → Sources
