-- The graph as plain data: what its declared types say, with the two ends of each interval.
use Rattle.std.specs.Prelude.{ℕ, ℤ, List, Option}
use Rattle.wm_ops.specs.declared.operators.Op.{Op}
use Rattle.wm_ops.specs.declared.words.Counted.{Counted}
use Rattle.wm_domain.specs.declared.form.Form.{Form}
use Rattle.wm_domain.specs.declared.form.Relation.{Relation}
use Rattle.wm_program.specs.declared.tree.PlainMark.{PlainMark}
use Rattle.wm_flow.specs.declared.action.Argument.{Argument}
use Rattle.wm_flow.specs.declared.action.Combined.{Combined}
use Rattle.wm_flow.specs.declared.action.Growth.{Growth}
use Rattle.wm_flow.specs.declared.action.Returned.{Returned}
use Rattle.wm_flow.specs.declared.graph.Head.{Head}
use Rattle.wm_flow.specs.declared.graph.Sum.{Sum}

-- the numbers from `low` to `high`
pub record Range : Type 0 where
  pub low : ℤ
  pub high : ℤ

-- a shape: the full ranges of the variables and of the cells of the arrays
pub record Layout : Type 0 where
  pub group : List Range
  pub singles : List Range
  pub arrays : List Range

-- an input's variable or array, and its range
pub record Bounded : Type 0 where
  pub target : ℕ
  pub range : Range

-- what an edge does; a summary is the range of the set cells, or none where no cell is set
pub data Doing : Type 0 where
  AssignForm : (target : ℕ) → Form → Doing
  Plain : PlainMark → (args : List Form) → (target : ℕ) → Doing
  Cast : Form → (target : ℕ) → Doing
  AssignRange : (target : ℕ) → Range → Doing
  SetArray : (array : ℕ) → Option Range → Doing
  Operate : Op → (args : List Form) → (target overflow : ℕ) → Doing
  Read : (array target : ℕ) → Doing
  Write : (array : ℕ) → Form → (length : ℕ) → Doing
  Clear : (variables : List ℕ) → Doing
  Keep : Form → Relation → Doing
  Test : (args : List Form) → Form → (low high : ℤ) → Combined → Doing
  Count : Counted → Doing
  Enter : (picks arrays : List (Option ℕ)) → List Argument → Doing
  Leave : (call : ℕ) → (from_call from_exit arrays : List (Option ℕ)) → Option Returned → Doing
  Reset : (counters : List ℕ) → Doing
  Turn : List Growth → Doing
  Tie : (counter loop_step variable step : ℕ) → Doing
  Inputs : (scalars arrays : List Bounded) → Doing

-- an edge
pub record Arc : Type 0 where
  pub source : ℕ
  pub target : ℕ
  pub doing : Doing
  pub site : Option ℕ

-- a graph
pub record Flow : Type 0 where
  pub layouts : List Layout
  pub node_shape : List ℕ
  pub node_instance : List (Option ℕ)
  pub arcs : List Arc
  pub heads : List Head
  pub sums : List Sum
