-- The plain tree of each variant of a declared one.
use Rattle.std.proofs.Common.{◌≡◌, ℕ, ℤ, List, [], ◌∷◌, map, refl, sym, ap, ◌∙◌}
use Rattle.wm_ops.specs.declared.operators.Op.{Op}
use Rattle.wm_ops.specs.declared.operators.Width.{Width}
use Rattle.wm_program.specs.declared.tree.Scalar as scalar_type
use Rattle.wm_program.specs.declared.tree.Array.{Array}
use Rattle.wm_program.specs.declared.tree.Converted.{Converted}
use Rattle.wm_program.specs.declared.tree.Link.{Link}
use Rattle.wm_program.specs.declared.tree.Passed.{Passed}
use Rattle.wm_program.specs.declared.tree.Passed.TheVariants as passed
use Rattle.wm_program.specs.declared.tree.View.TheVariants as view
use Rattle.wm_program.specs.declared.tree.Call as call_type
use Rattle.wm_program.specs.declared.tree.Expr.{Expr}
use Rattle.wm_program.specs.declared.tree.Expr.TheOpen.{Expr-F}
use Rattle.wm_program.specs.declared.tree.Expr.TheFolds.{fold-roll-Expr}
use Rattle.wm_program.specs.declared.tree.Expr.TheVariants.{Constant, Scalar, Element, Operator, Call, Chain, Negate, Plus, Cast, rolls-Constant, rolls-Scalar, rolls-Element, rolls-Operator, rolls-Call, rolls-Chain, rolls-Negate, rolls-Plus, rolls-Cast}
use Rattle.wm_program.specs.declared.tree.Comparison.{Comparison}
use Rattle.wm_program.specs.declared.tree.Condition.{Condition}
use Rattle.wm_program.specs.declared.tree.Condition.TheOpen.{Condition-F}
use Rattle.wm_program.specs.declared.tree.Condition.TheFolds.{fold-roll-Condition}
use Rattle.wm_program.specs.declared.tree.Condition.TheVariants.{Or, And, Not, Compare, Truth, rolls-Or, rolls-And, rolls-Not, rolls-Compare, rolls-Truth}
use Rattle.wm_program.specs.Tree as tree
use Rattle.wm_program.specs.Trees.{expression_of, expression_step, arguments_of, chain_of, test_of, test_step, either_of, both_of}
use Rattle.wm_program.specs.UsedParts.{plain_link, plain_passed, operands_of, passed_in}

pub of_constant : (z : ℤ) → expression_of (Constant z) ≡ tree.Constant z
of_constant z = ap expression_of (sym (rolls-Constant z)) ∙ fold-roll-Expr tree.Expression expression_step (Expr-F.Constant z)

pub of_scalar : (scalar : scalar_type.Scalar) → expression_of (Scalar scalar) ≡ tree.Named scalar
of_scalar scalar = ap expression_of (sym (rolls-Scalar scalar)) ∙ fold-roll-Expr tree.Expression expression_step (Expr-F.Scalar scalar)

pub of_element : (array : Array) (index : Expr) (site : ℕ) → expression_of (Element array index site) ≡ tree.Element array (expression_of index) site
of_element array index site = ap expression_of (sym (rolls-Element array index site)) ∙ fold-roll-Expr tree.Expression expression_step (Expr-F.Element array index site)

pub of_operator : (op : Op) (args : List (Converted Expr)) (site : ℕ) → expression_of (Operator op args site) ≡ tree.Operator op (operands_of args) site
of_operator op args site = ap expression_of (sym (rolls-Operator op args site)) ∙ fold-roll-Expr tree.Expression expression_step (Expr-F.Operator op args site)

-- two functions that agree on each variant of an argument make equal lists
alike : (f g : Passed Expr → Passed tree.Expression) → ((x : Converted Expr) → f (passed.Value x) ≡ g (passed.Value x)) → ((array : Array) → f (passed.View (view.Whole array)) ≡ g (passed.View (view.Whole array))) → ((array : Array) (index : Expr) (site : ℕ) → f (passed.View (view.From array index site)) ≡ g (passed.View (view.From array index site))) → (xs : List (Passed Expr)) → map f xs ≡ map g xs
alike f g p q r [] = refl
alike f g p q r (passed.Value x ∷ xs) = ap (λ y. y ∷ map f xs) (p x) ∙ ap (λ ys. g (passed.Value x) ∷ ys) (alike f g p q r xs)
alike f g p q r (passed.View (view.Whole array) ∷ xs) = ap (λ y. y ∷ map f xs) (q array) ∙ ap (λ ys. g (passed.View (view.Whole array)) ∷ ys) (alike f g p q r xs)
alike f g p q r (passed.View (view.From array index site) ∷ xs) = ap (λ y. y ∷ map f xs) (r array index site) ∙ ap (λ ys. g (passed.View (view.From array index site)) ∷ ys) (alike f g p q r xs)

pub of_call : (call : call_type.Call Expr) → expression_of (Call call) ≡ tree.Invoke call.function call.offset (passed_in call.arguments)
of_call call =
    ap expression_of (sym (rolls-Call call)) ∙ (fold-roll-Expr tree.Expression expression_step (Expr-F.Call call)
    ∙ ap (λ args. tree.Invoke call.function call.offset (arguments_of args)) (alike _ plain_passed (λ x. refl) (λ array. refl) (λ array index site. refl) call.arguments))

pub of_chain : (first : Expr) (rest : List (Link Expr)) → expression_of (Chain first rest) ≡ chain_of (expression_of first) (map plain_link rest)
of_chain first rest = ap expression_of (sym (rolls-Chain first rest)) ∙ fold-roll-Expr tree.Expression expression_step (Expr-F.Chain first rest)

pub of_negate : (operand : Expr) (site : ℕ) → expression_of (Negate operand site) ≡ tree.Negate (expression_of operand) site
of_negate operand site = ap expression_of (sym (rolls-Negate operand site)) ∙ fold-roll-Expr tree.Expression expression_step (Expr-F.Negate operand site)

pub of_plus : (operand : Expr) → expression_of (Plus operand) ≡ tree.Plus (expression_of operand)
of_plus operand = ap expression_of (sym (rolls-Plus operand)) ∙ fold-roll-Expr tree.Expression expression_step (Expr-F.Plus operand)

pub of_cast : (to : Width) (operand : Expr) → expression_of (Cast to operand) ≡ tree.Cast to (expression_of operand)
of_cast to operand = ap expression_of (sym (rolls-Cast to operand)) ∙ fold-roll-Expr tree.Expression expression_step (Expr-F.Cast to operand)

-- ---- conditions

pub of_or : (first : Condition) (rest : List Condition) → test_of (Or first rest) ≡ either_of (test_of first) (map test_of rest)
of_or first rest = ap test_of (sym (rolls-Or first rest)) ∙ fold-roll-Condition tree.Test test_step (Condition-F.Or first rest)

pub of_and : (first : Condition) (rest : List Condition) → test_of (And first rest) ≡ both_of (test_of first) (map test_of rest)
of_and first rest = ap test_of (sym (rolls-And first rest)) ∙ fold-roll-Condition tree.Test test_step (Condition-F.And first rest)

pub of_not : (c : Condition) → test_of (Not c) ≡ tree.Not (test_of c)
of_not c = ap test_of (sym (rolls-Not c)) ∙ fold-roll-Condition tree.Test test_step (Condition-F.Not c)

pub of_compare : (left : Expr) (mark : Comparison) (right : Expr) → test_of (Compare left mark right) ≡ tree.Compare (expression_of left) mark (expression_of right)
of_compare left mark right = ap test_of (sym (rolls-Compare left mark right)) ∙ fold-roll-Condition tree.Test test_step (Condition-F.Compare left mark right)

pub of_truth : (x : Expr) → test_of (Truth x) ≡ tree.Truth (expression_of x)
of_truth x = ap test_of (sym (rolls-Truth x)) ∙ fold-roll-Condition tree.Test test_step (Condition-F.Truth x)
