-- The function that chooses between several frame functions.
use Rattle.std.proofs.Common.{◌≡◌, ℕ, suc, ◌+◌, ◌<◌, ◌≤◌, true, false, List, [], ◌∷◌, length, map, take, pos, sym, ap, subst, arith}
use Rattle.std.proofs.lemmas.Int.{ints}
use Rattle.std.proofs.lemmas.List.Elements.{All-nil, All-head, All-tail}
use Rattle.std.specs.List.{All}
use Rattle.wm_numbers.specs.Within.{IsWord32}
use Rattle.wm_program.specs.declared.program.LocalInfo.{LocalInfo}
use Rattle.wm_program.specs.declared.tree.Comparison.TheVariants.{Equal}
use Rattle.wm_program.specs.declared.tree.Expr.TheVariants as expr
use Rattle.wm_program.specs.declared.tree.Scalar.TheVariants as scalar
use Rattle.wm_program.specs.declared.tree.Simple.TheVariants as simple
use Rattle.wm_program.specs.declared.tree.Statement.{Statement}
use Rattle.wm_program.specs.Code.{Code, Routine, routine_at, routine_of}
use Rattle.wm_program.specs.Tree as tree
use Rattle.wm_program.specs.Trees.{test_of, tree_of}
use Rattle.wm_program.specs.WellFormed.{Has, FitsExpression, FitsArguments, FitsDropped, FitsTest, FitsTree, RoutineFits, routine_slots, slot_of_local}
use Rattle.wm_calls.specs.Sizes.{size_at, plus}
use Rattle.wm_inputs.specs.Chooser.{call_of, choice, chosen, chooser}
use Rattle.wm_fitting.proofs.Folds.{of_constant, of_scalar, of_call, of_compare}
use Rattle.wm_fitting_statements.proofs.Forms.{of_empty, of_simple, of_if_else}
use Rattle.wm_fitting_programs.specs.Laws.{IsFrame}
use Rattle.wm_fitting_programs.proofs.Offsets.{plus_positive}

abbrev Fits : Code → Routine → ℕ → Statement → Type 0
Fits code routine number it = FitsTree code routine number (tree_of it) false

call_fits : (code : Code) (routine : Routine) (number function offset : ℕ) → IsFrame code function → 0 < offset → Fits code routine number (call_of function offset)
call_fits code routine number function offset f o =
    subst (λ t. FitsTree code routine number t false) (sym (of_simple (simple.Evaluate (expr.Call (record { function = function; offset = offset; arguments = [] })))))
    (subst (λ x. FitsDropped code routine x) (sym (of_call (record { function = function; offset = offset; arguments = [] })))
    ((f.there, o), subst (λ slots. FitsArguments code routine tree.Done slots) (sym (no_slots (routine_at code function) f.parameters)) tt))
  where
    no_slots : (it : Routine) → it.parameters ≡ 0 → routine_slots it ≡ []
    no_slots it e = ap (λ n. map slot_of_local (take n it.locals)) e

small : (n : ℕ) → n ≤ 2147483647 → IsWord32 (pos n)
small n l = record { above = omega (arith, ints); below = omega (arith, ints, l) }

test_fits : (code : Code) (routine : Routine) (object n : ℕ) → Has code.objects object (λ it. it.scalar ≡ true) → n ≤ 2147483647 → FitsTest code routine (test_of (choice object n))
test_fits code routine object n h l =
    subst (λ t. FitsTest code routine t) (sym (of_compare (expr.Scalar (scalar.Object object)) Equal (expr.Constant (pos n)))) (
      subst (λ x. FitsExpression code routine x) (sym (of_scalar (scalar.Object object))) h,
      subst (λ x. FitsExpression code routine x) (sym (of_constant (pos n))) (small n l),
    )

chosen_fits : (code : Code) (routine : Routine) (number object : ℕ) → Has code.objects object (λ it. it.scalar ≡ true) → (sizes : List ℕ) (n offset : ℕ) (frames : List ℕ) → All (IsFrame code) frames → 0 < offset → n + length frames ≤ 2147483647
    → Fits code routine number (chosen object sizes n offset frames)
chosen_fits code routine number object h sizes n offset [] a o l = subst (λ t. FitsTree code routine number t false) (sym of_empty) tt
chosen_fits code routine number object h sizes n offset (function ∷ []) a o l = call_fits code routine number function offset (All-head (IsFrame code) function [] a) o
chosen_fits code routine number object h sizes n offset (function ∷ next ∷ rest) a o l =
    subst (λ t. FitsTree code routine number t false) (sym (of_if_else false (choice object n) (call_of function offset) _)) (
      test_fits code routine object n h (less n (length rest) l),
      call_fits code routine number function offset (All-head (IsFrame code) function (next ∷ rest) a) o,
      chosen_fits code routine number object h sizes (n + 1) (plus offset (size_at sizes function)) (next ∷ rest) (All-tail (IsFrame code) function (next ∷ rest) a)
          (plus_positive offset (size_at sizes function) o) (further n (length rest) l),
    )
  where
    less : (n k : ℕ) → n + suc (suc k) ≤ 2147483647 → n ≤ 2147483647
    less n k l = omega (arith, l)

    further : (n k : ℕ) → n + suc (suc k) ≤ 2147483647 → (n + 1) + suc k ≤ 2147483647
    further n k l = omega (arith, l)

pub chooser_fits : (code : Code) (number object : ℕ) (sizes frames : List ℕ) → Has code.objects object (λ it. it.scalar ≡ true) → All (IsFrame code) frames → length frames < 2147483647 → RoutineFits code number (routine_of (chooser object sizes frames))
chooser_fits code number object sizes frames h a l = record {
  parameters = omega arith;
  views = All-nil (λ (it : LocalInfo). it.view ≡ false);
  body = (chosen_fits code (routine_of (chooser object sizes frames)) number object h sizes 1 1 frames a (omega arith) (omega (arith, l)), tt);
  ends = tt;
}
