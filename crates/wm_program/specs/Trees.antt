-- The plain tree of a declared one: a fold over each type, whose step has the plain tree of each part in its place.
use Rattle.std.specs.Prelude.{ℕ, ℤ, Bool, List, [], ◌∷◌, map, Option, Some, None}
use Rattle.std.specs.Option.{option_map_or}
use Rattle.wm_ops.specs.declared.operators.Width.{Width}
use Rattle.wm_program.specs.declared.tree.Converted.{Converted}
use Rattle.wm_program.specs.declared.tree.Link.{Link}
use Rattle.wm_program.specs.declared.tree.View.TheVariants as view
use Rattle.wm_program.specs.declared.tree.Passed.{Passed}
use Rattle.wm_program.specs.declared.tree.Passed.TheVariants as passed
use Rattle.wm_program.specs.declared.tree.Expr.{Expr}
use Rattle.wm_program.specs.declared.tree.Expr.TheOpen.{Expr-F}
use Rattle.wm_program.specs.declared.tree.Expr.TheFolds.{fold-Expr}
use Rattle.wm_program.specs.declared.tree.Condition.{Condition}
use Rattle.wm_program.specs.declared.tree.Condition.TheOpen.{Condition-F}
use Rattle.wm_program.specs.declared.tree.Condition.TheFolds.{fold-Condition}
use Rattle.wm_program.specs.declared.tree.Spot.{Spot}
use Rattle.wm_program.specs.declared.tree.Spot.TheVariants as spot
use Rattle.wm_program.specs.declared.tree.Simple.{Simple}
use Rattle.wm_program.specs.declared.tree.Simple.TheVariants as simple
use Rattle.wm_program.specs.declared.tree.Declared.{Declared}
use Rattle.wm_program.specs.declared.tree.Declared.TheVariants as made
use Rattle.wm_program.specs.declared.tree.Otherwise.{Otherwise}
use Rattle.wm_program.specs.declared.tree.Statement.{Statement}
use Rattle.wm_program.specs.declared.tree.Statement.TheOpen.{Statement-F}
use Rattle.wm_program.specs.declared.tree.Statement.TheFolds.{fold-Statement}
use Rattle.wm_program.specs.declared.tree.Body.{Body}
use Rattle.wm_program.specs.Tree.{Expression, Arguments, Test, Target, Effect, Fresh, Tree, Constant, Named, Element, Operator, Invoke, Plain, Negate, Plus, Cast, Done, Value, Whole, From, Always, Either, Both, Not, Compare, Truth, Variable, Item, Assign, Update, Evaluate, Count, Given, Filled, Blank, Listed, Skip, Seq, Block, Empty, Declare, Act, If, IfElse, For, While, Do, Break, Continue, Return, Leave}

-- ---- expressions

-- the arguments of an operator
abbrev pub values_of : List (Converted Expression) → Arguments
values_of [] = Done
values_of (x ∷ rest) = Value x.value x.narrowing (values_of rest)

abbrev pub passed_of : Passed Expression → Arguments → Arguments
passed_of (passed.Value x) rest = Value x.value x.narrowing rest
passed_of (passed.View (view.Whole array)) rest = Whole array rest
passed_of (passed.View (view.From array index site)) rest = From array index site rest

-- the arguments of a function
abbrev pub arguments_of : List (Passed Expression) → Arguments
arguments_of [] = Done
arguments_of (x ∷ rest) = passed_of x (arguments_of rest)

-- plain operators of one level, from left to right
abbrev pub chain_of : Expression → List (Link Expression) → Expression
chain_of first [] = first
chain_of first (link ∷ rest) = chain_of (Plain link.mark first link.operand link.site) rest

abbrev pub expression_step : Expr-F Expression → Expression
expression_step (Expr-F.Constant z) = Constant z
expression_step (Expr-F.Scalar scalar) = Named scalar
expression_step (Expr-F.Element array index site) = Element array index site
expression_step (Expr-F.Operator op args site) = Operator op (values_of args) site
expression_step (Expr-F.Call call) = Invoke call.function call.offset (arguments_of call.arguments)
expression_step (Expr-F.Chain first rest) = chain_of first rest
expression_step (Expr-F.Negate operand site) = Negate operand site
expression_step (Expr-F.Plus operand) = Plus operand
expression_step (Expr-F.Cast to operand) = Cast to operand

abbrev pub expression_of : Expr → Expression
expression_of = fold-Expr Expression expression_step

-- ---- conditions

abbrev pub either_of : Test → List Test → Test
either_of first [] = first
either_of first (test ∷ rest) = Either first (either_of test rest)

abbrev pub both_of : Test → List Test → Test
both_of first [] = first
both_of first (test ∷ rest) = Both first (both_of test rest)

abbrev pub test_step : Condition-F Test → Test
test_step (Condition-F.Or first rest) = either_of first rest
test_step (Condition-F.And first rest) = both_of first rest
test_step (Condition-F.Not condition) = Not condition
test_step (Condition-F.Compare left mark right) = Compare (expression_of left) mark (expression_of right)
test_step (Condition-F.Truth number) = Truth (expression_of number)

abbrev pub test_of : Condition → Test
test_of = fold-Condition Test test_step

-- ---- statements without words of their own, declarations

abbrev pub target_of : Spot → Target
target_of (spot.Scalar scalar) = Variable scalar
target_of (spot.Element array index site) = Item array (expression_of index) site

abbrev pub effect_of : Simple → Effect
effect_of (simple.Assign spot value) = Assign (target_of spot) (expression_of value.value) value.narrowing
effect_of (simple.Update spot mark value arithmetic narrowing) = Update (target_of spot) mark (expression_of value) arithmetic narrowing
effect_of (simple.Evaluate value) = Evaluate (expression_of value)
effect_of (simple.Count call) = Count call

abbrev pub scalar_of : ℕ → Width → Option (Converted Expr) → Fresh
scalar_of local width None = Filled local width
scalar_of local width (Some initial) = Given local (expression_of initial.value) initial.narrowing

abbrev pub array_of : ℕ → ℕ → Option (List ℤ) → Fresh
array_of local length None = Blank local length
array_of local length (Some values) = Listed local length values

abbrev pub fresh_of : Declared → Fresh
fresh_of (made.Scalar local width initial) = scalar_of local width initial
fresh_of (made.Array local length values) = array_of local length values

-- ---- statements

abbrev pub all_of : List Tree → Tree
all_of [] = Skip
all_of (tree ∷ rest) = Seq tree (all_of rest)

abbrev pub if_of : Bool → Test → Tree → Option (Otherwise Tree) → Tree
if_of is_counted test then None = If is_counted test then
if_of is_counted test then (Some otherwise) = IfElse is_counted test then otherwise.is_counted otherwise.body

abbrev pub return_of : Option (Converted Expr) → Tree
return_of None = Leave
return_of (Some x) = Return (expression_of x.value) x.narrowing

abbrev pub tree_step : Statement-F Tree → Tree
tree_step (Statement-F.Block statements) = Block (all_of statements)
tree_step Statement-F.Empty = Empty
tree_step (Statement-F.Declare declared) = Declare (map fresh_of declared)
tree_step (Statement-F.Simple simple) = Act (effect_of simple)
tree_step (Statement-F.If is_counted condition then otherwise) = if_of is_counted (test_of condition) then otherwise
tree_step (Statement-F.For is_counted number begin condition step body) =
    For is_counted number (map effect_of begin) (option_map_or test_of condition Always) (map effect_of step) body
tree_step (Statement-F.While is_counted number condition body) = While is_counted number (test_of condition) body
tree_step (Statement-F.Do is_counted is_tail_counted number body condition) =
    Do is_counted is_tail_counted number body (test_of condition)
tree_step (Statement-F.Break is_counted) = Break is_counted
tree_step (Statement-F.Continue is_counted) = Continue is_counted
tree_step (Statement-F.Return value) = return_of value

abbrev pub tree_of : Statement → Tree
tree_of = fold-Statement Tree tree_step

-- the block of a function
abbrev pub body_of : Body → Tree
body_of body = Block (all_of (map tree_of body.statements))
