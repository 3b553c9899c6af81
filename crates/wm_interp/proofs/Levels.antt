-- The plain tree of each variant of a declared one.
use Rattle.std.proofs.Common.{◌≡◌, ℕ, ℤ, Bool, Option, Some, None, List, [], ◌∷◌, map, refl, sym, ap, ◌∙◌}
use Rattle.std.specs.Option.{option_map_or}
use Rattle.wm_ops.specs.declared.operators.Op.{Op}
use Rattle.wm_ops.specs.declared.operators.Width.{Width}
use Rattle.wm_program.specs.declared.tree.Scalar as scalar_type
use Rattle.wm_program.specs.declared.tree.Array.{Array}
use Rattle.wm_program.specs.declared.tree.Converted.{Converted}
use Rattle.wm_program.specs.declared.tree.Link.{Link}
use Rattle.wm_program.specs.declared.tree.Passed.{Passed}
use Rattle.wm_program.specs.declared.tree.Passed.TheVariants as passed
use Rattle.wm_program.specs.declared.tree.View.TheVariants as view
use Rattle.wm_program.specs.declared.tree.Call as call_type
use Rattle.wm_program.specs.declared.tree.Expr.{Expr}
use Rattle.wm_program.specs.declared.tree.Expr.TheOpen.{Expr-F}
use Rattle.wm_program.specs.declared.tree.Expr.TheFolds.{fold-roll-Expr}
use Rattle.wm_program.specs.declared.tree.Expr.TheVariants.{Constant, Scalar, Element, Operator, Call, Chain, Negate, Plus, Cast, rolls-Constant, rolls-Scalar, rolls-Element, rolls-Operator, rolls-Call, rolls-Chain, rolls-Negate, rolls-Plus, rolls-Cast}
use Rattle.wm_program.specs.declared.tree.Comparison.{Comparison}
use Rattle.wm_program.specs.declared.tree.Condition.{Condition}
use Rattle.wm_program.specs.declared.tree.Condition.TheOpen.{Condition-F}
use Rattle.wm_program.specs.declared.tree.Condition.TheFolds.{fold-roll-Condition}
use Rattle.wm_program.specs.declared.tree.Condition.TheVariants.{Or, And, Not, Compare, Truth, rolls-Or, rolls-And, rolls-Not, rolls-Compare, rolls-Truth}
use Rattle.wm_program.specs.declared.tree.Simple as simple_type
use Rattle.wm_program.specs.declared.tree.Declared.{Declared}
use Rattle.wm_program.specs.declared.tree.Otherwise.{Otherwise}
use Rattle.wm_program.specs.declared.tree.Statement.{Statement}
use Rattle.wm_program.specs.declared.tree.Statement.TheOpen.{Statement-F}
use Rattle.wm_program.specs.declared.tree.Statement.TheFolds.{fold-roll-Statement}
use Rattle.wm_program.specs.declared.tree.Statement.TheVariants.{Block, Empty, Declare, Simple, If, For, While, Do, Break, Continue, Return, rolls-Block, rolls-Empty, rolls-Declare, rolls-Simple, rolls-If, rolls-For, rolls-While, rolls-Do, rolls-Break, rolls-Continue, rolls-Return}
use Rattle.wm_program.specs.Tree as tree
use Rattle.wm_program.specs.Trees.{expression_of, expression_step, values_of, arguments_of, chain_of, test_of, test_step, either_of, both_of, effect_of, fresh_of, tree_of, tree_step, return_of}
use Rattle.wm_interp.specs.Parts.{plain_value, plain_link, plain_passed, operands_of, passed_in, tree_all}

pub of_constant : (z : ℤ) → expression_of (Constant z) ≡ tree.Constant z
of_constant z = ap expression_of (sym (rolls-Constant z)) ∙ fold-roll-Expr tree.Expression expression_step (Expr-F.Constant z)

pub of_scalar : (scalar : scalar_type.Scalar) → expression_of (Scalar scalar) ≡ tree.Named scalar
of_scalar scalar = ap expression_of (sym (rolls-Scalar scalar)) ∙ fold-roll-Expr tree.Expression expression_step (Expr-F.Scalar scalar)

pub of_element : (array : Array) (index : Expr) (site : ℕ) → expression_of (Element array index site) ≡ tree.Element array (expression_of index) site
of_element array index site = ap expression_of (sym (rolls-Element array index site)) ∙ fold-roll-Expr tree.Expression expression_step (Expr-F.Element array index site)

pub of_operator : (op : Op) (args : List (Converted Expr)) (site : ℕ) → expression_of (Operator op args site) ≡ tree.Operator op (operands_of args) site
of_operator op args site = ap expression_of (sym (rolls-Operator op args site)) ∙ fold-roll-Expr tree.Expression expression_step (Expr-F.Operator op args site)

-- two functions that agree on each variant of an argument make equal lists
alike : (f g : Passed Expr → Passed tree.Expression) → ((x : Converted Expr) → f (passed.Value x) ≡ g (passed.Value x)) → ((array : Array) → f (passed.View (view.Whole array)) ≡ g (passed.View (view.Whole array))) → ((array : Array) (index : Expr) (site : ℕ) → f (passed.View (view.From array index site)) ≡ g (passed.View (view.From array index site))) → (xs : List (Passed Expr)) → map f xs ≡ map g xs
alike f g p q r [] = refl
alike f g p q r (passed.Value x ∷ xs) = ap (λ y. y ∷ map f xs) (p x) ∙ ap (λ ys. g (passed.Value x) ∷ ys) (alike f g p q r xs)
alike f g p q r (passed.View (view.Whole array) ∷ xs) = ap (λ y. y ∷ map f xs) (q array) ∙ ap (λ ys. g (passed.View (view.Whole array)) ∷ ys) (alike f g p q r xs)
alike f g p q r (passed.View (view.From array index site) ∷ xs) = ap (λ y. y ∷ map f xs) (r array index site) ∙ ap (λ ys. g (passed.View (view.From array index site)) ∷ ys) (alike f g p q r xs)

pub of_call : (call : call_type.Call Expr) → expression_of (Call call) ≡ tree.Invoke call.function call.offset (passed_in call.arguments)
of_call call =
    ap expression_of (sym (rolls-Call call)) ∙ (fold-roll-Expr tree.Expression expression_step (Expr-F.Call call)
    ∙ ap (λ args. tree.Invoke call.function call.offset (arguments_of args)) (alike _ plain_passed (λ x. refl) (λ array. refl) (λ array index site. refl) call.arguments))

pub of_chain : (first : Expr) (rest : List (Link Expr)) → expression_of (Chain first rest) ≡ chain_of (expression_of first) (map plain_link rest)
of_chain first rest = ap expression_of (sym (rolls-Chain first rest)) ∙ fold-roll-Expr tree.Expression expression_step (Expr-F.Chain first rest)

pub of_negate : (operand : Expr) (site : ℕ) → expression_of (Negate operand site) ≡ tree.Negate (expression_of operand) site
of_negate operand site = ap expression_of (sym (rolls-Negate operand site)) ∙ fold-roll-Expr tree.Expression expression_step (Expr-F.Negate operand site)

pub of_plus : (operand : Expr) → expression_of (Plus operand) ≡ tree.Plus (expression_of operand)
of_plus operand = ap expression_of (sym (rolls-Plus operand)) ∙ fold-roll-Expr tree.Expression expression_step (Expr-F.Plus operand)

pub of_cast : (to : Width) (operand : Expr) → expression_of (Cast to operand) ≡ tree.Cast to (expression_of operand)
of_cast to operand = ap expression_of (sym (rolls-Cast to operand)) ∙ fold-roll-Expr tree.Expression expression_step (Expr-F.Cast to operand)

-- ---- conditions

pub of_or : (first : Condition) (rest : List Condition) → test_of (Or first rest) ≡ either_of (test_of first) (map test_of rest)
of_or first rest = ap test_of (sym (rolls-Or first rest)) ∙ fold-roll-Condition tree.Test test_step (Condition-F.Or first rest)

pub of_and : (first : Condition) (rest : List Condition) → test_of (And first rest) ≡ both_of (test_of first) (map test_of rest)
of_and first rest = ap test_of (sym (rolls-And first rest)) ∙ fold-roll-Condition tree.Test test_step (Condition-F.And first rest)

pub of_not : (c : Condition) → test_of (Not c) ≡ tree.Not (test_of c)
of_not c = ap test_of (sym (rolls-Not c)) ∙ fold-roll-Condition tree.Test test_step (Condition-F.Not c)

pub of_compare : (left : Expr) (mark : Comparison) (right : Expr) → test_of (Compare left mark right) ≡ tree.Compare (expression_of left) mark (expression_of right)
of_compare left mark right = ap test_of (sym (rolls-Compare left mark right)) ∙ fold-roll-Condition tree.Test test_step (Condition-F.Compare left mark right)

pub of_truth : (x : Expr) → test_of (Truth x) ≡ tree.Truth (expression_of x)
of_truth x = ap test_of (sym (rolls-Truth x)) ∙ fold-roll-Condition tree.Test test_step (Condition-F.Truth x)

-- ---- statements

pub of_block : (statements : List Statement) → tree_of (Block statements) ≡ tree.Block (tree_all statements)
of_block statements = ap tree_of (sym (rolls-Block statements)) ∙ fold-roll-Statement tree.Tree tree_step (Statement-F.Block statements)

pub of_empty : tree_of Empty ≡ tree.Empty
of_empty = ap tree_of (sym rolls-Empty) ∙ fold-roll-Statement tree.Tree tree_step Statement-F.Empty

pub of_declare : (declared : List Declared) → tree_of (Declare declared) ≡ tree.Declare (map fresh_of declared)
of_declare declared = ap tree_of (sym (rolls-Declare declared)) ∙ fold-roll-Statement tree.Tree tree_step (Statement-F.Declare declared)

pub of_simple : (x : simple_type.Simple) → tree_of (Simple x) ≡ tree.Act (effect_of x)
of_simple x = ap tree_of (sym (rolls-Simple x)) ∙ fold-roll-Statement tree.Tree tree_step (Statement-F.Simple x)

pub of_if : (is_counted : Bool) (c : Condition) (first : Statement) → tree_of (If is_counted c first None) ≡ tree.If is_counted (test_of c) (tree_of first)
of_if is_counted c first = ap tree_of (sym (rolls-If is_counted c first None)) ∙ fold-roll-Statement tree.Tree tree_step (Statement-F.If is_counted c first None)

pub of_if_else : (is_counted : Bool) (c : Condition) (first : Statement) (other : Otherwise Statement) → tree_of (If is_counted c first (Some other)) ≡ tree.IfElse is_counted (test_of c) (tree_of first) other.is_counted (tree_of other.body)
of_if_else is_counted c first other = ap tree_of (sym (rolls-If is_counted c first (Some other))) ∙ fold-roll-Statement tree.Tree tree_step (Statement-F.If is_counted c first (Some other))

pub of_for : (is_counted : Bool) (number : ℕ) (begin : List simple_type.Simple) (c : Option Condition) (step : List simple_type.Simple) (body : Statement) → tree_of (For is_counted number begin c step body) ≡ tree.For is_counted number (map effect_of begin) (option_map_or test_of c tree.Always) (map effect_of step) (tree_of body)
of_for is_counted number begin c step body = ap tree_of (sym (rolls-For is_counted number begin c step body)) ∙ fold-roll-Statement tree.Tree tree_step (Statement-F.For is_counted number begin c step body)

pub of_while : (is_counted : Bool) (number : ℕ) (c : Condition) (body : Statement) → tree_of (While is_counted number c body) ≡ tree.While is_counted number (test_of c) (tree_of body)
of_while is_counted number c body = ap tree_of (sym (rolls-While is_counted number c body)) ∙ fold-roll-Statement tree.Tree tree_step (Statement-F.While is_counted number c body)

pub of_do : (is_counted is_tail_counted : Bool) (number : ℕ) (body : Statement) (c : Condition) → tree_of (Do is_counted is_tail_counted number body c) ≡ tree.Do is_counted is_tail_counted number (tree_of body) (test_of c)
of_do is_counted is_tail_counted number body c = ap tree_of (sym (rolls-Do is_counted is_tail_counted number body c)) ∙ fold-roll-Statement tree.Tree tree_step (Statement-F.Do is_counted is_tail_counted number body c)

pub of_break : (is_counted : Bool) → tree_of (Break is_counted) ≡ tree.Break is_counted
of_break is_counted = ap tree_of (sym (rolls-Break is_counted)) ∙ fold-roll-Statement tree.Tree tree_step (Statement-F.Break is_counted)

pub of_continue : (is_counted : Bool) → tree_of (Continue is_counted) ≡ tree.Continue is_counted
of_continue is_counted = ap tree_of (sym (rolls-Continue is_counted)) ∙ fold-roll-Statement tree.Tree tree_step (Statement-F.Continue is_counted)

pub of_return : (x : Option (Converted Expr)) → tree_of (Return x) ≡ return_of x
of_return x = ap tree_of (sym (rolls-Return x)) ∙ fold-roll-Statement tree.Tree tree_step (Statement-F.Return x)
