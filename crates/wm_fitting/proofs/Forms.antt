-- Forms of expressions that fit, from parts that do.
use Rattle.std.proofs.Common.{◌≡◌, ℕ, Bool, true, false, Some, List, [], ◌∷◌, ◌++◌, length, map, ℤ, pos, refl, sym, ap, subst, arith}
use Rattle.std.proofs.lemmas.Int.{ints}
use Rattle.std.specs.Prelude.{slice_get}
use Rattle.wm_numbers.specs.Within.{IsWord32}
use Rattle.wm_ops.specs.Operators.{arity_of, result_width_of}
use Rattle.wm_ops.specs.declared.operators.Op.{Op}
use Rattle.wm_ops.specs.declared.operators.Op.TheVariants.{Add}
use Rattle.wm_ops.specs.declared.operators.Width.{Width}
use Rattle.wm_ops.specs.declared.operators.Width.TheVariants.{W32}
use Rattle.wm_program.specs.declared.program.SiteKind.TheVariants as kind
use Rattle.wm_program.specs.declared.tree.Array.{Array}
use Rattle.wm_program.specs.declared.tree.Comparison.{Comparison}
use Rattle.wm_program.specs.declared.tree.Condition.{Condition}
use Rattle.wm_program.specs.declared.tree.Condition.TheVariants as c
use Rattle.wm_program.specs.declared.tree.Converted.{Converted}
use Rattle.wm_program.specs.declared.tree.Expr.{Expr}
use Rattle.wm_program.specs.declared.tree.Expr.TheVariants as e
use Rattle.wm_program.specs.declared.tree.Link.{Link}
use Rattle.wm_program.specs.declared.tree.Passed.{Passed}
use Rattle.wm_program.specs.declared.tree.Passed.TheVariants as passed
use Rattle.wm_program.specs.declared.tree.Scalar.{Scalar}
use Rattle.wm_program.specs.declared.tree.View.TheVariants as view
use Rattle.wm_program.specs.Tree.{Expression, Test, Constant, Named, Element, Operator, Plain, Negate, Plus, Cast, Not, Compare, Truth}
use Rattle.wm_program.specs.Trees.{expression_of, test_of, chain_of, either_of, both_of}
use Rattle.wm_program.specs.WellFormed.{IsSite, Slot, FitsScalar, FitsArray, scalar_width, array_width, goes_down, needs_site, FitsNarrowing, FitsDivisor, FitsExpression, FitsArguments, FitsTest, operator_slots}
use Rattle.wm_fitting.specs.Fitting.{Setting, FitsNumber}
use Rattle.wm_fitting.proofs.Folds.{plain_link, operands_of, handed_of, of_constant, of_scalar, of_element, of_operator, of_chain, of_negate, of_plus, of_cast, of_or, of_and, of_not, of_compare, of_truth}

abbrev pub Fits : Setting → Expr → Type 0
Fits S x = FitsExpression S.code S.routine (expression_of x)

abbrev pub Tests : Setting → Condition → Type 0
Tests S x = FitsTest S.code S.routine (test_of x)

-- the types to which a number of this type goes by a site
abbrev pub falls : Setting → Width → Width → Bool
falls S from to = goes_down S.code S.routine from to

-- ---- numbers

pub as_number : (S : Setting) (narrow : Width → Bool) (x : Expr) (y : Expression) → expression_of x ≡ y → FitsExpression S.code S.routine y → ((to : Width) → needs_site S.code S.routine y to ≡ narrow to) → FitsNumber S narrow x
as_number S narrow x y h f n = record {
  fits = subst (λ y. FitsExpression S.code S.routine y) (sym h) f;
  needs = λ to. subst (λ y. needs_site S.code S.routine y to ≡ narrow to) (sym h) (n to);
}

pub number_constant : (S : Setting) (narrow : Width → Bool) (z : ℤ) → IsWord32 z → ((to : Width) → needs_site S.code S.routine (Constant z) to ≡ narrow to) → FitsNumber S narrow (e.Constant z)
number_constant S narrow z f n = as_number S narrow (e.Constant z) (Constant z) (of_constant z) f n

zero_word : IsWord32 (pos 0)
zero_word = record { above = omega (arith, ints); below = omega (arith, ints) }

pub no_number_fits : (S : Setting) → Fits S (e.Constant (pos 0))
no_number_fits S = subst (λ y. FitsExpression S.code S.routine y) (sym (of_constant (pos 0))) zero_word

pub number_named : (S : Setting) (scalar : Scalar) (width : Width) → FitsScalar S.code S.routine scalar → scalar_width S.code S.routine scalar ≡ width → FitsNumber S (falls S width) (e.Scalar scalar)
number_named S scalar width f w = as_number S (falls S width) (e.Scalar scalar) (Named scalar) (of_scalar scalar) f (λ to. ap (λ w. goes_down S.code S.routine w to) w)

pub number_element : (S : Setting) (array : Array) (width : Width) (index : Expr) (site : ℕ) → FitsArray S.code S.routine array → array_width S.code S.routine array ≡ width → Fits S index → IsSite S.code site kind.Index → FitsNumber S (falls S width) (e.Element array index site)
number_element S array width index site f w i s = as_number S (falls S width) (e.Element array index site) (Element array (expression_of index) site) (of_element array index site) (f, i, s) (λ to. ap (λ w. goes_down S.code S.routine w to) w)

pub number_negate : (S : Setting) (x : Expr) (site : ℕ) → Fits S x → IsSite S.code site kind.Arithmetic → FitsNumber S (falls S W32) (e.Negate x site)
number_negate S x site f s = as_number S (falls S W32) (e.Negate x site) (Negate (expression_of x) site) (of_negate x site) (f, s) (λ to. refl)

pub number_plus : (S : Setting) (x : Expr) → Fits S x → FitsNumber S (falls S W32) (e.Plus x)
number_plus S x f = as_number S (falls S W32) (e.Plus x) (Plus (expression_of x)) (of_plus x) f (λ to. refl)

pub number_cast : (S : Setting) (width : Width) (x : Expr) → Fits S x → FitsNumber S (falls S width) (e.Cast width x)
number_cast S width x f = as_number S (falls S width) (e.Cast width x) (Cast width (expression_of x)) (of_cast width x) f (λ to. refl)

-- ---- chains

pub record LinkFits (S : Setting) (link : Link Expr) : Type 0 where
  pub operand : Fits S link.operand
  pub divisor : FitsDivisor S.code S.routine link.mark (expression_of link.operand)
  pub site : IsSite S.code link.site kind.Arithmetic

abbrev pub LinksFit : Setting → List (Link Expr) → Type 0
LinksFit S [] = Unit {0}
LinksFit S (link ∷ rest) = LinkFits S link × LinksFit S rest

abbrev pub HasLinks : List (Link Expr) → Type 0
HasLinks [] = ⊥
HasLinks (link ∷ rest) = Unit {0}

pub links_with : (S : Setting) (links : List (Link Expr)) (link : Link Expr) → LinksFit S links → LinkFits S link → LinksFit S (links ++ link ∷ [])
links_with S [] link h k = (k, tt)
links_with S (one ∷ links) link h k = (h.0, links_with S links link h.1 k)

pub has_links : (links : List (Link Expr)) (link : Link Expr) → HasLinks (links ++ link ∷ [])
has_links [] link = tt
has_links (one ∷ links) link = tt

chain_fits : (S : Setting) (first : Expression) (links : List (Link Expr)) → FitsExpression S.code S.routine first → LinksFit S links → FitsExpression S.code S.routine (chain_of first (map plain_link links))
chain_fits S first [] f h = f
chain_fits S first (link ∷ links) f h = chain_fits S (Plain link.mark first (expression_of link.operand) link.site) links (f, (h.0).operand, (h.0).divisor, (h.0).site) h.1

chain_needs : (S : Setting) (first : Expression) (link : Link Expr) (links : List (Link Expr)) (to : Width) → needs_site S.code S.routine (chain_of first (map plain_link (link ∷ links))) to ≡ goes_down S.code S.routine W32 to
chain_needs S first link [] to = refl
chain_needs S first link (next ∷ links) to = chain_needs S (Plain link.mark first (expression_of link.operand) link.site) next links to

chain_needs_of : (S : Setting) (first : Expression) (links : List (Link Expr)) → HasLinks links → (to : Width) → needs_site S.code S.routine (chain_of first (map plain_link links)) to ≡ goes_down S.code S.routine W32 to
chain_needs_of S first [] h to = absurd h
chain_needs_of S first (link ∷ links) h to = chain_needs S first link links to

pub number_chain : (S : Setting) (first : Expr) (links : List (Link Expr)) → HasLinks links → Fits S first → LinksFit S links → FitsNumber S (falls S W32) (e.Chain first links)
number_chain S first links has f h = as_number S (falls S W32) (e.Chain first links) (chain_of (expression_of first) (map plain_link links)) (of_chain first links) (chain_fits S (expression_of first) links f h) (chain_needs_of S (expression_of first) links has)

-- ---- conditions

abbrev pub TestsFit : Setting → List Condition → Type 0
TestsFit S [] = Unit {0}
TestsFit S (one ∷ rest) = Tests S one × TestsFit S rest

pub tests_with : (S : Setting) (others : List Condition) (one : Condition) → TestsFit S others → Tests S one → TestsFit S (others ++ one ∷ [])
tests_with S [] one h k = (k, tt)
tests_with S (other ∷ others) one h k = (h.0, tests_with S others one h.1 k)

either_fits : (S : Setting) (first : Test) (others : List Condition) → FitsTest S.code S.routine first → TestsFit S others → FitsTest S.code S.routine (either_of first (map test_of others))
either_fits S first [] f h = f
either_fits S first (one ∷ others) f h = (f, either_fits S (test_of one) others h.0 h.1)

both_fits : (S : Setting) (first : Test) (others : List Condition) → FitsTest S.code S.routine first → TestsFit S others → FitsTest S.code S.routine (both_of first (map test_of others))
both_fits S first [] f h = f
both_fits S first (one ∷ others) f h = (f, both_fits S (test_of one) others h.0 h.1)

as_test : (S : Setting) (x : Condition) (y : Test) → test_of x ≡ y → FitsTest S.code S.routine y → Tests S x
as_test S x y h f = subst (λ y. FitsTest S.code S.routine y) (sym h) f

pub test_or : (S : Setting) (first : Condition) (others : List Condition) → Tests S first → TestsFit S others → Tests S (c.Or first others)
test_or S first others f h = as_test S (c.Or first others) (either_of (test_of first) (map test_of others)) (of_or first others) (either_fits S (test_of first) others f h)

pub test_and : (S : Setting) (first : Condition) (others : List Condition) → Tests S first → TestsFit S others → Tests S (c.And first others)
test_and S first others f h = as_test S (c.And first others) (both_of (test_of first) (map test_of others)) (of_and first others) (both_fits S (test_of first) others f h)

pub test_not : (S : Setting) (x : Condition) → Tests S x → Tests S (c.Not x)
test_not S x f = as_test S (c.Not x) (Not (test_of x)) (of_not x) f

pub test_compare : (S : Setting) (left : Expr) (mark : Comparison) (right : Expr) → Fits S left → Fits S right → Tests S (c.Compare left mark right)
test_compare S left mark right f g = as_test S (c.Compare left mark right) (Compare (expression_of left) mark (expression_of right)) (of_compare left mark right) (f, g)

pub test_truth : (S : Setting) (x : Expr) → Fits S x → Tests S (c.Truth x)
test_truth S x f = as_test S (c.Truth x) (Truth (expression_of x)) (of_truth x) f

-- ---- arguments

pub record OperandFits (S : Setting) (x : Converted Expr) (slot : Slot) : Type 0 where
  pub value : slot.view ≡ false
  pub fits : Fits S x.value
  pub narrowing : FitsNarrowing S.code S.routine (needs_site S.code S.routine (expression_of x.value) slot.width) x.narrowing

-- each fits its slot; one too many may be anything
abbrev pub OperandsFit : Setting → List (Converted Expr) → List Slot → Type 0
OperandsFit S [] slots = Unit {0}
OperandsFit S (x ∷ rest) [] = Unit {0}
OperandsFit S (x ∷ rest) (slot ∷ slots) = OperandFits S x slot × OperandsFit S rest slots

pub operands_with : (S : Setting) (found : List (Converted Expr)) (x : Converted Expr) (slots : List Slot) → OperandsFit S found slots → ((slot : Slot) → slice_get slots (length found) ≡ Some slot → OperandFits S x slot) → OperandsFit S (found ++ x ∷ []) slots
operands_with S [] x [] h k = tt
operands_with S [] x (slot ∷ slots) h k = (k slot refl, tt)
operands_with S (one ∷ found) x [] h k = tt
operands_with S (one ∷ found) x (slot ∷ slots) h k = (h.0, operands_with S found x slots h.1 k)

pub operands_all : (S : Setting) (found : List (Converted Expr)) (slots : List Slot) → length found ≡ length slots → OperandsFit S found slots → FitsArguments S.code S.routine (operands_of found) slots
operands_all S [] [] l h = tt
operands_all S [] (slot ∷ slots) l h = absurd (omega arith)
operands_all S (x ∷ found) [] l h = absurd (omega arith)
operands_all S (x ∷ found) (slot ∷ slots) l h = ((h.0).value, (h.0).fits, (h.0).narrowing, operands_all S found slots (omega arith) h.1)

pub number_operator : (S : Setting) (op : Op) (found : List (Converted Expr)) (site : ℕ) → length found ≡ length (operator_slots op) → OperandsFit S found (operator_slots op) → IsSite S.code site (kind.Operator op) → FitsNumber S (falls S (result_width_of op)) (e.Operator op found site)
number_operator S op found site l h s = as_number S (falls S (result_width_of op)) (e.Operator op found site) (Operator op (operands_of found) site) (of_operator op found site) (operands_all S found (operator_slots op) l h, s) (λ to. refl)

pub arity_told : (op : Op) → arity_of op ≡ length (operator_slots op)
arity_told Add = refl
arity_told _ = refl

abbrev pub PassedFits : Setting → Passed Expr → Slot → Type 0
PassedFits S (passed.Value x) slot = OperandFits S x slot
PassedFits S (passed.View (view.Whole array)) slot =
    (slot.view ≡ true) × FitsArray S.code S.routine array × (array_width S.code S.routine array ≡ slot.width)
PassedFits S (passed.View (view.From array index site)) slot =
    (slot.view ≡ true) × FitsArray S.code S.routine array × (array_width S.code S.routine array ≡ slot.width)
    × Fits S index × IsSite S.code site kind.View

abbrev pub AllPassedFit : Setting → List (Passed Expr) → List Slot → Type 0
AllPassedFit S [] slots = Unit {0}
AllPassedFit S (x ∷ rest) [] = Unit {0}
AllPassedFit S (x ∷ rest) (slot ∷ slots) = PassedFits S x slot × AllPassedFit S rest slots

pub passed_with : (S : Setting) (found : List (Passed Expr)) (x : Passed Expr) (slots : List Slot) → AllPassedFit S found slots → ((slot : Slot) → slice_get slots (length found) ≡ Some slot → PassedFits S x slot) → AllPassedFit S (found ++ x ∷ []) slots
passed_with S [] x [] h k = tt
passed_with S [] x (slot ∷ slots) h k = (k slot refl, tt)
passed_with S (one ∷ found) x [] h k = tt
passed_with S (one ∷ found) x (slot ∷ slots) h k = (h.0, passed_with S found x slots h.1 k)

pub passed_all : (S : Setting) (found : List (Passed Expr)) (slots : List Slot) → length found ≡ length slots → AllPassedFit S found slots → FitsArguments S.code S.routine (handed_of found) slots
passed_all S [] [] l h = tt
passed_all S [] (slot ∷ slots) l h = absurd (omega arith)
passed_all S (x ∷ found) [] l h = absurd (omega arith)
passed_all S (passed.Value x ∷ found) (slot ∷ slots) l h = ((h.0).value, (h.0).fits, (h.0).narrowing, passed_all S found slots (omega arith) h.1)
passed_all S (passed.View (view.Whole array) ∷ found) (slot ∷ slots) l h = ((h.0).0, (h.0).1, (h.0).2, passed_all S found slots (omega arith) h.1)
passed_all S (passed.View (view.From array index site) ∷ found) (slot ∷ slots) l h = ((h.0).0, (h.0).1, (h.0).2, (h.0).3, (h.0).4, passed_all S found slots (omega arith) h.1)
