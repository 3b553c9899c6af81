-- What stands at a site, and on which operands it fails.
use Rattle.std.specs.Prelude.{ℕ, suc, Bool, false, List, [], ◌∷◌, ◌++◌, ℤ, pos, neg_ℤ, Option, Some, None, IsTrue, if◌then◌else◌, ◌==◌, slice_index_or}
use Rattle.std.specs.Option.{option_map_or}
use Rattle.wm_ops.specs.declared.operators.Op.{Op}
use Rattle.wm_ops.specs.Clamping.{leaves16, leaves32}
use Rattle.wm_ops.specs.Outcomes.{fails_of}
use Rattle.wm_program.specs.declared.tree.Array.{Array}
use Rattle.wm_program.specs.declared.tree.PlainMark.{PlainMark}
use Rattle.wm_program.specs.Numbers.{plain_of, is_outside}
use Rattle.wm_program.specs.Tree.{Expression, Arguments, Test, Target, Effect, Fresh, Tree, Constant, Named, Element, Operator, Invoke, Plain, Negate, Plus, Cast, Done, Value, Whole, From, Always, Either, Both, Not, Compare, Truth, Variable, Item, Assign, Update, Evaluate, Count, Given, Filled, Blank, Listed, Skip, Seq, Block, Empty, Declare, Act, If, IfElse, For, While, Do, Break, Continue, Return, Leave}
use Rattle.wm_program.specs.State.{Here, root_of}
use Rattle.wm_program.specs.Code.{Code, routine_at, function_of, roots_of, length_of}

-- What is done at a site. The operands are the arguments of an operator; those of a plain operator, for `+=` and its
-- kin the number of the spot and the right side, for `++` and `--` the number of the spot and 1; the one operand of a
-- minus before it; the number that is narrowed; the index, offset included.
pub data Operation : Type 0 where
  Applies : Op → Operation
  Computes : PlainMark → Operation
  Negates : Operation
  Narrows : Operation
  Indexes : Array → Operation
  Views : Array → Operation

-- an operation and the number of its site
pub record Standing : Type 0 where
  pub site : ℕ
  pub operation : Operation

abbrev pub narrowing_of : Option ℕ → List Standing
narrowing_of None = []
narrowing_of (Some site) = record { site = site; operation = Narrows } ∷ []

abbrev pub one : ℕ → Operation → List Standing
one site operation = record { site = site; operation = operation } ∷ []

abbrev mutual
  pub in_expression : Expression → List Standing
  in_expression (Constant z) = []
  in_expression (Named scalar) = []
  in_expression (Element array index site) = one site (Indexes array) ++ in_expression index
  in_expression (Operator op args site) = one site (Applies op) ++ in_arguments args
  in_expression (Invoke function offset args) = in_arguments args
  in_expression (Plain mark x y site) = in_expression x ++ one site (Computes mark) ++ in_expression y
  in_expression (Negate x site) = one site Negates ++ in_expression x
  in_expression (Plus x) = in_expression x
  in_expression (Cast width x) = in_expression x

  pub in_arguments : Arguments → List Standing
  in_arguments Done = []
  in_arguments (Value x narrowing rest) = in_expression x ++ narrowing_of narrowing ++ in_arguments rest
  in_arguments (Whole array rest) = in_arguments rest
  in_arguments (From array index site rest) = one site (Views array) ++ in_expression index ++ in_arguments rest

abbrev pub in_test : Test → List Standing
in_test Always = []
in_test (Either c d) = in_test c ++ in_test d
in_test (Both c d) = in_test c ++ in_test d
in_test (Not c) = in_test c
in_test (Compare x mark y) = in_expression x ++ in_expression y
in_test (Truth x) = in_expression x

abbrev pub in_target : Target → List Standing
in_target (Variable scalar) = []
in_target (Item array index site) = one site (Indexes array) ++ in_expression index

abbrev pub in_effect : Effect → List Standing
in_effect (Assign target x narrowing) = in_target target ++ in_expression x ++ narrowing_of narrowing
in_effect (Update target mark x arithmetic narrowing) =
    in_target target ++ one arithmetic (Computes mark) ++ narrowing_of narrowing ++ in_expression x
in_effect (Evaluate x) = in_expression x
in_effect (Count call) = []

abbrev pub in_effects : List Effect → List Standing
in_effects [] = []
in_effects (effect ∷ rest) = in_effect effect ++ in_effects rest

abbrev pub in_fresh : Fresh → List Standing
in_fresh (Given local x narrowing) = in_expression x ++ narrowing_of narrowing
in_fresh (Filled local width) = []
in_fresh (Blank local count) = []
in_fresh (Listed local count values) = []

abbrev pub in_all_fresh : List Fresh → List Standing
in_all_fresh [] = []
in_all_fresh (fresh ∷ rest) = in_fresh fresh ++ in_all_fresh rest

-- the operations of a tree
abbrev pub in_tree : Tree → List Standing
in_tree Skip = []
in_tree (Seq first rest) = in_tree first ++ in_tree rest
in_tree (Block tree) = in_tree tree
in_tree Empty = []
in_tree (Declare fresh) = in_all_fresh fresh
in_tree (Act effect) = in_effect effect
in_tree (If is_counted test first) = in_test test ++ in_tree first
in_tree (IfElse is_counted test first is_else_counted otherwise) = in_test test ++ in_tree first ++ in_tree otherwise
in_tree (For is_counted loop begin test step body) = in_effects begin ++ in_test test ++ in_effects step ++ in_tree body
in_tree (While is_counted loop test body) = in_test test ++ in_tree body
in_tree (Do is_counted is_tail_counted loop body test) = in_tree body ++ in_test test
in_tree (Break is_counted) = []
in_tree (Continue is_counted) = []
in_tree (Return x narrowing) = in_expression x ++ narrowing_of narrowing
in_tree Leave = []

abbrev pub operation_among : List Standing → ℕ → Option Operation
operation_among [] site = None
operation_among (standing ∷ rest) site =
    if standing.site == site then Some standing.operation else operation_among rest site

abbrev pub operand : List ℤ → ℕ → ℤ
operand values k = slice_index_or values k (pos 0)

-- the operation fails on these operands, in an instance
unfoldable pub fails_on : Code → Here → Operation → List ℤ → Bool
fails_on code here (Applies op) values = fails_of op (operand values 0) (operand values 1) (operand values 2)
fails_on code here (Computes mark) values = leaves32 (plain_of mark (operand values 0) (operand values 1))
fails_on code here Negates values = leaves32 (neg_ℤ (operand values 0))
fails_on code here Narrows values = leaves16 (operand values 0)
fails_on code here (Indexes array) values = is_outside (length_of code (root_of here array)) (operand values 0)
fails_on code here (Views array) values = is_outside (suc (length_of code (root_of here array))) (operand values 0)

abbrev pub here_in : Code → ℕ → Here
here_in code instance = record { instance = instance; roots = roots_of code instance }

abbrev pub operation_at : Code → (instance site : ℕ) → Option Operation
operation_at code instance site = operation_among (in_tree (routine_at code (function_of code instance)).body) site

-- the site of this instance fails on these operands
abbrev pub FailsAt : Code → (site instance : ℕ) → List ℤ → Type 0
FailsAt code site instance values =
    IsTrue (option_map_or (λ operation. fails_on code (here_in code instance) operation values) (operation_at code instance site) false)
