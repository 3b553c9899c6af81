-- The tree of a body as plain data. A list of statements is `Seq` and `Skip`, and a chain of operators is one operator
-- on another.
use Rattle.std.specs.Prelude.{ℕ, ℤ, Bool, List, Option}
use Rattle.wm_ops.specs.declared.operators.Op.{Op}
use Rattle.wm_ops.specs.declared.operators.Width.{Width}
use Rattle.wm_ops.specs.declared.words.CountCall.{CountCall}
use Rattle.wm_program.specs.declared.tree.Scalar.{Scalar}
use Rattle.wm_program.specs.declared.tree.Array.{Array}
use Rattle.wm_program.specs.declared.tree.PlainMark.{PlainMark}
use Rattle.wm_program.specs.declared.tree.Comparison.{Comparison}

mutual
  -- an expression
  pub data Expression : Type 0 where
    Constant : ℤ → Expression
    Named : Scalar → Expression
    Element : Array → (index : Expression) → (site : ℕ) → Expression
    Operator : Op → Arguments → (site : ℕ) → Expression
    Invoke : (function offset : ℕ) → Arguments → Expression
    Plain : PlainMark → Expression → Expression → (site : ℕ) → Expression
    Negate : Expression → (site : ℕ) → Expression
    Plus : Expression → Expression
    Cast : Width → Expression → Expression

  -- arguments, from left to right
  pub data Arguments : Type 0 where
    Done : Arguments
    -- a value, with the site of its conversion
    Value : Expression → (narrowing : Option ℕ) → Arguments → Arguments
    -- views: a whole array, the part of it from an index on
    Whole : Array → Arguments → Arguments
    From : Array → (index : Expression) → (site : ℕ) → Arguments → Arguments

-- a condition
pub data Test : Type 0 where
  -- an absent one
  Always : Test
  Either : Test → Test → Test
  Both : Test → Test → Test
  Not : Test → Test
  Compare : Expression → Comparison → Expression → Test
  Truth : Expression → Test

-- what an assignment writes
pub data Target : Type 0 where
  Variable : Scalar → Target
  Item : Array → (index : Expression) → (site : ℕ) → Target

-- a statement without words of its own
pub data Effect : Type 0 where
  Assign : Target → Expression → (narrowing : Option ℕ) → Effect
  Update : Target → PlainMark → Expression → (arithmetic : ℕ) → (narrowing : Option ℕ) → Effect
  Evaluate : Expression → Effect
  Count : CountCall → Effect

-- what a declaration makes: a scalar with a value or with the next number of the fill list, an array without or with
-- values
pub data Fresh : Type 0 where
  Given : (local : ℕ) → Expression → (narrowing : Option ℕ) → Fresh
  Filled : (local : ℕ) → Width → Fresh
  Blank : (local length : ℕ) → Fresh
  Listed : (local length : ℕ) → List ℤ → Fresh

-- a statement, or several
pub data Tree : Type 0 where
  Skip : Tree
  Seq : Tree → Tree → Tree
  Block : Tree → Tree
  Empty : Tree
  Declare : List Fresh → Tree
  Act : Effect → Tree
  If : (is_counted : Bool) → Test → Tree → Tree
  IfElse : (is_counted : Bool) → Test → Tree → (is_else_counted : Bool) → Tree → Tree
  For : (is_counted : Bool) → (loop : ℕ) → (begin : List Effect) → Test → (step : List Effect) → Tree → Tree
  While : (is_counted : Bool) → (loop : ℕ) → Test → Tree → Tree
  Do : (is_counted is_tail_counted : Bool) → (loop : ℕ) → Tree → Test → Tree
  Break : (is_counted : Bool) → Tree
  Continue : (is_counted : Bool) → Tree
  Return : Expression → (narrowing : Option ℕ) → Tree
  Leave : Tree
