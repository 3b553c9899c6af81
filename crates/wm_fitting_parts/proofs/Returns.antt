-- Returns, and what automatic scalars begin with.
use Rattle.std.proofs.Common.{◌≡◌, ℕ, Bool, false, Option, Some, None, refl, sym, ap, ◌∙◌, subst}
use Rattle.wm_lang.specs.declared.expression.Expr.{Expr as Source}
use Rattle.wm_lang.specs.declared.place.Position.{Position}
use Rattle.wm_lang.specs.declared.statement.Initializer.{Initializer}
use Rattle.wm_ops.specs.declared.operators.Width.{Width}
use Rattle.wm_program.specs.declared.tree.Converted.{Converted}
use Rattle.wm_program.specs.declared.tree.Expr.{Expr}
use Rattle.wm_program.specs.declared.tree.Statement.{Statement}
use Rattle.wm_program.specs.declared.tree.Statement.TheFolds.{fold-roll-Statement}
use Rattle.wm_program.specs.declared.tree.Statement.TheOpen.{Statement-F}
use Rattle.wm_program.specs.declared.tree.Statement.TheVariants.{Return, rolls-Return}
use Rattle.wm_program.specs.Tree.{Tree}
use Rattle.wm_program.specs.Trees.{expression_of, tree_step, tree_of, return_of}
use Rattle.wm_program.specs.WellFormed.{FitsNarrowing, FitsConversion, FitsReturn, FitsTree}
use Rattle.wm_scope.specs.declared.fault.TokenFault.TheVariants.{WrongKind}
use Rattle.wm_source.specs.Reading.{source_of}
use Rattle.wm_marks.specs.declared.marks.Marks.{Marks}
use Rattle.wm_marks.specs.Marking.{noted}
use Rattle.wm_value.specs.Needs.{number_in}
use Rattle.wm_value.specs.Widths.{narrows, narrowing_in}
use Rattle.wm_body.specs.Declarations.{converted}
use Rattle.wm_body.specs.Statements.{left, returned, returned_value}
use Rattle.wm_fitting.specs.Plain.{IsPlain}
use Rattle.wm_fitting.specs.Fitting.{Setting, ScopeFits, Good, FitsNumber}
use Rattle.wm_fitting.proofs.Collecting.{chain, done, faulty}
use Rattle.wm_fitting.proofs.Reading.{expression_fits}
use Rattle.wm_fitting_acts.proofs.Dropping.{number_in_fits}
use Rattle.wm_fitting_acts.proofs.Targets.{narrowing_fits}
use Rattle.wm_fitting_parts.specs.Laws.{FitsInitial}
use Rattle.wm_fitting_parts.specs.PlainParts.{IsPlainOption, IsPlainInitial}

pub of_return : (value : Option (Converted Expr)) → tree_of (Return value) ≡ return_of value
of_return value = ap tree_of (sym (rolls-Return value)) ∙ fold-roll-Statement Tree tree_step (Statement-F.Return value)

-- a number that goes to a type
pub conversion : (S : Setting) (narrow : Width → Bool) (x : Expr) (site : Option ℕ) (to : Width) → FitsNumber S narrow x → FitsNarrowing S.code S.routine (narrow to) site → FitsConversion S.code S.routine (expression_of x) site to
conversion S narrow x site to f n = (f.fits, subst (λ b. FitsNarrowing S.code S.routine b site) (sym (f.needs to)) n)

-- ---- returns

abbrev Trees : Setting → ℕ → Bool → Statement → Type 0
Trees S function inside it = FitsTree S.code S.routine function (tree_of it) inside

left_fits : (S : Setting) (function : ℕ) (inside : Bool) (at : Position) (w : Option Width) → S.routine.result ≡ w → (m : Marks) → Good S (Trees S function inside) m (left at w m)
left_fits S function inside at (Some width) e m = faulty WrongKind at m
left_fits S function inside at None e m = done (subst (λ t. FitsTree S.code S.routine function t inside) (sym (of_return None)) e)

value_fits : (S : Setting) (names : ScopeFits S) (function : ℕ) (inside : Bool) (x : Source) → IsPlain (source_of x) → (at : Position) (w : Option Width) → S.routine.result ≡ w → (m : Marks) → Good S (Trees S function inside) m (returned_value x at w S.scope m)
unfolding returned_value
value_fits S names function inside x p at (Some width) e m =
    let n = narrowing_in S.scope (source_of x) width at m in
    let y = number_in S.scope x n.1 in
    let it : Converted Expr = record { value = y.0; narrowing = n.0 } in
    chain (narrowing_fits S (source_of x) width at m) (chain (number_in_fits S names x p n.1)
    (done (λ f s. subst (λ t. FitsTree S.code S.routine function t inside) (sym (of_return (Some it)))
    (subst (λ w. FitsReturn S.code S.routine w (expression_of y.0) n.0) (sym e) (conversion S (narrows S.scope (source_of x)) y.0 n.0 width f s)))))
value_fits S names function inside x p at None e m =
    let bad : Good {A = Unit {0}} S (λ u. ⊥) m (tt, noted WrongKind at m) = faulty WrongKind at m in
    chain bad (chain (expression_fits S names (source_of x) p false (noted WrongKind at m)) (done (λ f b. absurd b)))

pub returns_fit : (S : Setting) → ScopeFits S → (value : Option Source) → IsPlainOption value → (at : Position) (function : ℕ) (inside : Bool) (m : Marks) → Good S (λ it. FitsTree S.code S.routine function (tree_of it) inside) m (returned value at S.routine.result S.scope m)
unfolding returned
returns_fit S names None p at function inside m = left_fits S function inside at S.routine.result refl m
returns_fit S names (Some x) p at function inside m = value_fits S names function inside x p at S.routine.result refl m

-- ---- what a scalar begins with

pub conversions_fit : (S : Setting) → ScopeFits S → (width : Width) (initial : Option Initializer) → IsPlainInitial initial → (m : Marks) → Good S (FitsInitial S width) m (converted width initial S.scope m)
unfolding converted
conversions_fit S names width None p m = done tt
conversions_fit S names width (Some initial) p m =
    let x = initial.value in
    let n = narrowing_in S.scope (source_of x) width initial.at m in
    let y = number_in S.scope x n.1 in
    chain (narrowing_fits S (source_of x) width initial.at m) (chain (number_in_fits S names x p n.1)
    (done (λ f s. conversion S (narrows S.scope (source_of x)) y.0 n.0 width f s)))
