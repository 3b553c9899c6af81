-- What the machine does at each variant of a declared tree.
use Rattle.std.proofs.Common.{◌≡◌, ℕ, ◌≤◌, Bool, true, false, not, ℤ, pos, List, [], ◌∷◌, ◌++◌, map, length, Option, Some, None, refl, sym, ap, ◌∙◌, arith}
use Rattle.std.specs.Prelude.{slice_get, neg_ℤ}
use Rattle.std.specs.Ordering.{int_eq}
use Rattle.wm_ops.specs.declared.operators.Op.{Op}
use Rattle.wm_ops.specs.declared.operators.Width.{Width}
use Rattle.wm_program.specs.declared.tree.Scalar as scalar_type
use Rattle.wm_program.specs.declared.tree.Array.{Array}
use Rattle.wm_program.specs.declared.tree.Comparison.{Comparison}
use Rattle.wm_program.specs.declared.tree.Converted.{Converted}
use Rattle.wm_program.specs.declared.tree.Link.{Link}
use Rattle.wm_program.specs.declared.tree.Passed.{Passed}
use Rattle.wm_program.specs.declared.tree.Passed.TheVariants as passed
use Rattle.wm_program.specs.declared.tree.View.TheVariants as view
use Rattle.wm_program.specs.declared.tree.Call as call_type
use Rattle.wm_program.specs.declared.tree.Expr.{Expr}
use Rattle.wm_program.specs.declared.tree.Expr.TheVariants as expr
use Rattle.wm_program.specs.declared.tree.Condition.{Condition}
use Rattle.wm_program.specs.declared.tree.Condition.TheVariants as condition
use Rattle.wm_program.specs.Numbers.{plain_of, compares, cast_to}
use Rattle.wm_program.specs.Tree.{Expression, Test, Plain}
use Rattle.wm_program.specs.Trees.{expression_of, test_of, chain_of, either_of, both_of}
use Rattle.wm_program.specs.Execution.{there}
use Rattle.wm_interp.specs.Held.{Held, Gets, Has, Ends, then_on}
use Rattle.wm_interp.specs.Going.{Setting, converted_on, computed_on, named_on, element_on, operate_on, evaluate_on, three_on, gather_on, links_on}
use Rattle.wm_interp.specs.Doing.{ask_on, unless_on, when_on}
use Rattle.wm_interp.specs.Layers.{operand_on, pass_on, stops_on, series_on}
use Rattle.wm_interp.specs.Parts.{plain_link, plain_passed, operands_of, passed_in}
use Rattle.wm_interp.proofs.Levels.{of_constant, of_scalar, of_element, of_operator, of_call, of_chain, of_negate, of_plus, of_cast, of_or, of_and, of_not, of_compare, of_truth}

pub on_and_on : {A B C : Type 0} (got : Gets A) (f : A → Held → Gets B) (g : B → Held → Gets C) → then_on (then_on got f) g ≡ then_on got (λ x q. then_on (f x q) g)
on_and_on (Has x q) f g = refl
on_and_on (Ends end q) f g = refl

-- what follows alike is alike
pub alike_on : {A B : Type 0} (got : Gets A) (f g : A → Held → Gets B) → ((x : A) (q : Held) → f x q ≡ g x q) → then_on got f ≡ then_on got g
alike_on (Has x q) f g h = h x q
alike_on (Ends end q) f g h = refl

-- ---- expressions

pub on_constant : (at : Setting) (z : ℤ) (q : Held) → evaluate_on at (expression_of (expr.Constant z)) q ≡ Has z q
on_constant at z q = ap (λ x. evaluate_on at x q) (of_constant z)

pub on_scalar : (at : Setting) (scalar : scalar_type.Scalar) (q : Held) → evaluate_on at (expression_of (expr.Scalar scalar)) q ≡ Has (named_on at scalar q) q
on_scalar at scalar q = ap (λ x. evaluate_on at x q) (of_scalar scalar)

pub on_element : (at : Setting) (array : Array) (index : Expr) (site : ℕ) (q : Held) → evaluate_on at (expression_of (expr.Element array index site)) q ≡ then_on (evaluate_on at (expression_of index) q) (element_on at array site)
on_element at array index site q = ap (λ x. evaluate_on at x q) (of_element array index site)

pub on_operator : (at : Setting) (op : Op) (args : List (Converted Expr)) (site : ℕ) (q : Held) → evaluate_on at (expression_of (expr.Operator op args site)) q ≡ then_on (three_on at (operands_of args) q) (operate_on at op site)
on_operator at op args site q = ap (λ x. evaluate_on at x q) (of_operator op args site)

pub on_call : (at : Setting) (call : call_type.Call Expr) (q : Held) → evaluate_on at (expression_of (expr.Call call)) q ≡ then_on (gather_on at (passed_in call.arguments) [] q) (at.calls call.function (there at.here call.offset (passed_in call.arguments)))
on_call at call q = ap (λ x. evaluate_on at x q) (of_call call)

keep_links : (at : Setting) (got : Gets ℤ) → got ≡ then_on got (links_on at [])
keep_links at (Has z q) = refl
keep_links at (Ends end q) = refl

links_follow : (at : Setting) (x : Expression) (rest : List (Link Expression)) (q : Held) → evaluate_on at (chain_of x rest) q ≡ then_on (evaluate_on at x q) (links_on at rest)
links_follow at x [] q = keep_links at (evaluate_on at x q)
links_follow at x (link ∷ rest) q =
    links_follow at (Plain link.mark x link.operand link.site) rest q
    ∙ (on_and_on (evaluate_on at x q) _ (links_on at rest)
    ∙ alike_on (evaluate_on at x q) _ _ (λ a q. on_and_on (evaluate_on at link.operand q) _ (links_on at rest)))

pub on_chain : (at : Setting) (first : Expr) (rest : List (Link Expr)) (q : Held) → evaluate_on at (expression_of (expr.Chain first rest)) q ≡ then_on (evaluate_on at (expression_of first) q) (links_on at (map plain_link rest))
on_chain at first rest q = ap (λ x. evaluate_on at x q) (of_chain first rest) ∙ links_follow at (expression_of first) (map plain_link rest) q

pub on_negate : (at : Setting) (operand : Expr) (site : ℕ) (q : Held) → evaluate_on at (expression_of (expr.Negate operand site)) q ≡ then_on (evaluate_on at (expression_of operand) q) (λ z. computed_on site (neg_ℤ z))
on_negate at operand site q = ap (λ x. evaluate_on at x q) (of_negate operand site)

pub on_plus : (at : Setting) (operand : Expr) (q : Held) → evaluate_on at (expression_of (expr.Plus operand)) q ≡ evaluate_on at (expression_of operand) q
on_plus at operand q = ap (λ x. evaluate_on at x q) (of_plus operand)

pub on_cast : (at : Setting) (to : Width) (operand : Expr) (q : Held) → evaluate_on at (expression_of (expr.Cast to operand)) q ≡ then_on (evaluate_on at (expression_of operand) q) (λ z. Has (cast_to to z))
on_cast at to operand q = ap (λ x. evaluate_on at x q) (of_cast to operand)

-- ---- arguments

pub three_operands : (at : Setting) (args : List (Converted Expr)) (q : Held) → length args ≤ 3 → three_on at (operands_of args) q ≡ then_on (operand_on at (slice_get args 0) q) (λ a q. then_on (operand_on at (slice_get args 1) q) (λ b q. then_on (operand_on at (slice_get args 2) q) (λ c. Has (a ∷ b ∷ c ∷ []))))
three_operands at [] q h = refl
three_operands at (x ∷ []) q h = sym (on_and_on (evaluate_on at (expression_of x.value) q) _ _)
three_operands at (x ∷ y ∷ []) q h =
    sym (on_and_on (evaluate_on at (expression_of x.value) q) _ _
    ∙ alike_on (evaluate_on at (expression_of x.value) q) _ _ (λ a q. alike_on (converted_on x.narrowing a q) _ _ (λ a q. on_and_on (evaluate_on at (expression_of y.value) q) _ _)))
three_operands at (x ∷ y ∷ z ∷ []) q h =
    sym (on_and_on (evaluate_on at (expression_of x.value) q) _ _
    ∙ alike_on (evaluate_on at (expression_of x.value) q) _ _ (λ a q. alike_on (converted_on x.narrowing a q) _ _ (λ a q.
    on_and_on (evaluate_on at (expression_of y.value) q) _ _
    ∙ alike_on (evaluate_on at (expression_of y.value) q) _ _ (λ b q. alike_on (converted_on y.narrowing b q) _ _ (λ b q.
    on_and_on (evaluate_on at (expression_of z.value) q) _ _)))))
three_operands at (x ∷ y ∷ z ∷ w ∷ rest) q h = absurd (omega arith)

pub gather_next : (at : Setting) (x : Passed Expr) (rest : List (Passed Expr)) (zs : List ℤ) (q : Held) → gather_on at (passed_in (x ∷ rest)) zs q ≡ then_on (pass_on at x q) (λ z. gather_on at (passed_in rest) (zs ++ z ∷ []))
gather_next at (passed.Value x) rest zs q = sym (on_and_on (evaluate_on at (expression_of x.value) q) _ _)
gather_next at (passed.View (view.Whole array)) rest zs q = refl
gather_next at (passed.View (view.From array index site)) rest zs q = sym (on_and_on (evaluate_on at (expression_of index) q) _ _)

-- ---- conditions

keep_any : (at : Setting) (got : Gets Bool) → got ≡ then_on got (λ holds. unless_on holds (series_on at true []))
keep_any at (Has true q) = refl
keep_any at (Has false q) = refl
keep_any at (Ends end q) = refl

swap_any : (got : Gets Bool) (go : Held → Gets Bool) → then_on got (λ holds. unless_on holds go) ≡ then_on got (λ holds. stops_on true holds go)
swap_any (Has true q) go = refl
swap_any (Has false q) go = refl
swap_any (Ends end q) go = refl

unless_alike : (holds : Bool) (f g : Held → Gets Bool) (q : Held) → f q ≡ g q → unless_on holds f q ≡ unless_on holds g q
unless_alike true f g q h = refl
unless_alike false f g q h = h

any_follows : (at : Setting) (c : Test) (rest : List Test) (q : Held) → ask_on at (either_of c rest) q ≡ then_on (ask_on at c q) (λ holds. unless_on holds (series_on at true rest))
any_follows at c [] q = keep_any at (ask_on at c q)
any_follows at c (d ∷ rest) q =
    alike_on (ask_on at c q) _ _ (λ holds q. unless_alike holds (ask_on at (either_of d rest)) (series_on at true (d ∷ rest)) q (any_follows at d rest q ∙ swap_any (ask_on at d q) (series_on at true rest)))

keep_all : (at : Setting) (got : Gets Bool) → got ≡ then_on got (λ holds. when_on holds (series_on at false []))
keep_all at (Has true q) = refl
keep_all at (Has false q) = refl
keep_all at (Ends end q) = refl

swap_all : (got : Gets Bool) (go : Held → Gets Bool) → then_on got (λ holds. when_on holds go) ≡ then_on got (λ holds. stops_on false holds go)
swap_all (Has true q) go = refl
swap_all (Has false q) go = refl
swap_all (Ends end q) go = refl

when_alike : (holds : Bool) (f g : Held → Gets Bool) (q : Held) → f q ≡ g q → when_on holds f q ≡ when_on holds g q
when_alike true f g q h = h
when_alike false f g q h = refl

all_follow : (at : Setting) (c : Test) (rest : List Test) (q : Held) → ask_on at (both_of c rest) q ≡ then_on (ask_on at c q) (λ holds. when_on holds (series_on at false rest))
all_follow at c [] q = keep_all at (ask_on at c q)
all_follow at c (d ∷ rest) q =
    alike_on (ask_on at c q) _ _ (λ holds q. when_alike holds (ask_on at (both_of d rest)) (series_on at false (d ∷ rest)) q (all_follow at d rest q ∙ swap_all (ask_on at d q) (series_on at false rest)))

pub on_or : (at : Setting) (first : Condition) (rest : List Condition) (q : Held) → ask_on at (test_of (condition.Or first rest)) q ≡ then_on (ask_on at (test_of first) q) (λ holds. unless_on holds (series_on at true (map test_of rest)))
on_or at first rest q = ap (λ x. ask_on at x q) (of_or first rest) ∙ any_follows at (test_of first) (map test_of rest) q

pub on_and : (at : Setting) (first : Condition) (rest : List Condition) (q : Held) → ask_on at (test_of (condition.And first rest)) q ≡ then_on (ask_on at (test_of first) q) (λ holds. when_on holds (series_on at false (map test_of rest)))
on_and at first rest q = ap (λ x. ask_on at x q) (of_and first rest) ∙ all_follow at (test_of first) (map test_of rest) q

pub on_not : (at : Setting) (c : Condition) (q : Held) → ask_on at (test_of (condition.Not c)) q ≡ then_on (ask_on at (test_of c) q) (λ holds. Has (not holds))
on_not at c q = ap (λ x. ask_on at x q) (of_not c)

pub on_compare : (at : Setting) (left : Expr) (mark : Comparison) (right : Expr) (q : Held) → ask_on at (test_of (condition.Compare left mark right)) q ≡ then_on (evaluate_on at (expression_of left) q) (λ a q. then_on (evaluate_on at (expression_of right) q) (λ b. Has (compares mark a b)))
on_compare at left mark right q = ap (λ x. ask_on at x q) (of_compare left mark right)

pub on_truth : (at : Setting) (x : Expr) (q : Held) → ask_on at (test_of (condition.Truth x)) q ≡ then_on (evaluate_on at (expression_of x) q) (λ z. Has (not (int_eq z (pos 0))))
on_truth at x q = ap (λ x. ask_on at x q) (of_truth x)
