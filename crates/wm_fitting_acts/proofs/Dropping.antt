-- Numbers and conditions, and calls whose values are dropped.
use Rattle.std.proofs.Common.{Bool, false, Option, Some, None, List, [], refl, sym, subst}
use Rattle.wm_lang.specs.declared.expression.Call.{Call as Written}
use Rattle.wm_lang.specs.declared.expression.Expr.{Expr as Source}
use Rattle.wm_lang.specs.declared.expression.Identifier.{Identifier}
use Rattle.wm_ops.specs.declared.operators.Op.{Op}
use Rattle.wm_ops.specs.declared.operators.Width.{Width}
use Rattle.wm_program.specs.declared.tree.Call.{Call as Invocation}
use Rattle.wm_program.specs.declared.tree.Converted.{Converted}
use Rattle.wm_program.specs.declared.tree.Expr.{Expr}
use Rattle.wm_program.specs.declared.tree.Passed.{Passed}
use Rattle.wm_program.specs.Trees.{expression_of, test_of, effect_of}
use Rattle.wm_program.specs.WellFormed.{FitsExpression, FitsDropped, FitsTest, FitsEffect}
use Rattle.wm_source.specs.Firsts.{beginning_of}
use Rattle.wm_source.specs.Reading.{source_of}
use Rattle.wm_source.specs.Source.{Sources, Call}
use Rattle.wm_source.specs.Written.{written_sources}
use Rattle.wm_scope.specs.declared.meaning.Meaning.{Meaning}
use Rattle.wm_scope.specs.declared.meaning.Meaning.TheVariants as meaning
use Rattle.wm_scope.specs.declared.scope.Slot.{Slot as Parameter}
use Rattle.wm_scope.specs.Scopes.{meaning_of, result_of}
use Rattle.wm_marks.specs.declared.marks.Marks.{Marks}
use Rattle.wm_marks.specs.Marking.{Marking}
use Rattle.wm_value.specs.declared.form.Value.{Value}
use Rattle.wm_value.specs.declared.form.Value.TheVariants.{Number, Truth, View as Seen, LostView, Function, Effect, Nothing}
use Rattle.wm_value.specs.Needs.{number_in, condition_in, call_in}
use Rattle.wm_value.specs.Values.{settled, form_in, call_value, operator_value, counting_value, function_value, called_by, operands_in, passed_in}
use Rattle.wm_value.specs.Widths.{narrows}
use Rattle.wm_body.specs.Simples.{act_of}
use Rattle.wm_fitting.specs.Plain.{IsPlain, ArePlain}
use Rattle.wm_fitting.specs.Fitting.{Setting, ScopeFits, Good, FitsNumber, FitsAs}
use Rattle.wm_fitting.proofs.Collecting.{chain}
use Rattle.wm_fitting.proofs.Folds.{of_operator, of_call}
use Rattle.wm_fitting.proofs.Naming.{also, number_fits, condition_fits}
use Rattle.wm_fitting.proofs.Reading.{form_fits, expression_fits}

pub number_in_fits : (S : Setting) (names : ScopeFits S) (x : Source) → IsPlain (source_of x) → (m : Marks) → Good S (FitsNumber S (narrows S.scope (source_of x))) m (number_in S.scope x m)
unfolding number_in
number_in_fits S names x p m =
    let r = settled (source_of x) (form_in S.scope false (source_of x)) m in
    chain (expression_fits S names (source_of x) p false m)
    (also (number_fits S (narrows S.scope (source_of x)) (beginning_of (source_of x)) r.0 r.1) (λ y f a. f a.fits))

pub condition_in_fits : (S : Setting) (names : ScopeFits S) (x : Source) → IsPlain (source_of x) → (m : Marks) → Good S (λ test. FitsTest S.code S.routine (test_of test)) m (condition_in S.scope x m)
unfolding condition_in
condition_in_fits S names x p m =
    let r = settled (source_of x) (form_in S.scope false (source_of x)) m in
    chain (expression_fits S names (source_of x) p false m)
    (also (condition_fits S (narrows S.scope (source_of x)) (beginning_of (source_of x)) r.0 r.1) (λ y f a. f a.fits))

-- ---- calls whose values are dropped

-- what a call gives is the call of an operator or of a function, or an effect
abbrev pub Drops : Setting → Value → Type 0
Drops S (Number x) = FitsExpression S.code S.routine (expression_of x) → FitsDropped S.code S.routine (expression_of x)
Drops S (Truth condition) = ⊥
Drops S (Seen view sight) = ⊥
Drops S LostView = ⊥
Drops S Function = ⊥
Drops S (Effect effect) = Unit {0}
Drops S Nothing = Unit {0}

call_drops : (S : Setting) (o : Option Width) (call : Invocation Expr) → Drops S (call_value o call)
call_drops S None call = tt
call_drops S (Some width) call = subst (λ y. FitsExpression S.code S.routine y → FitsDropped S.code S.routine y) (sym (of_call call)) (λ f. (f.0, f.2))

called_drops : (S : Setting) (name : Identifier) (arguments : Sources) (operands : Op → Marking (List (Converted Expr))) (handed : List Parameter → Marking (List (Passed Expr))) (g : Meaning) (m : Marks) → Drops S (called_by S.scope name arguments operands handed g m).0
unfolding operator_value counting_value function_value
called_drops S name arguments operands handed (meaning.Operator op) m = subst (λ y. FitsExpression S.code S.routine y → FitsDropped S.code S.routine y) (sym (of_operator op _ _)) (λ f. f)
called_drops S name arguments operands handed (meaning.Counting call) m = tt
called_drops S name arguments operands handed (meaning.Function function) m = call_drops S (result_of function S.scope) _
called_drops S name arguments operands handed (meaning.Scalar scalar width is_const) m = tt
called_drops S name arguments operands handed (meaning.Array array width is_const) m = tt
called_drops S name arguments operands handed meaning.Nothing m = tt

act_fits : (S : Setting) (narrow : Width → Bool) (v : Value) → Drops S v → FitsAs S narrow v → FitsEffect S.code S.routine (effect_of (act_of v))
act_fits S narrow (Number x) d f = d f.fits
act_fits S narrow (Truth condition) d f = absurd d
act_fits S narrow (Seen view sight) d f = absurd d
act_fits S narrow LostView d f = absurd d
act_fits S narrow Function d f = absurd d
act_fits S narrow (Effect effect) d f = f
act_fits S narrow Nothing d f = absurd f

pub dropped_fits : (S : Setting) (names : ScopeFits S) (call : Written Source) → ArePlain (written_sources call.arguments) → (m : Marks) → Good S (λ v. FitsEffect S.code S.routine (effect_of (act_of v))) m (call_in S.scope call m)
unfolding call_in
dropped_fits S names call p m =
    let arguments = written_sources call.arguments in
    let g = form_fits S names (Call call.name arguments) p false m refl in
    let d = called_drops S call.name arguments (λ op. operands_in S.scope op [] arguments) (λ slots. passed_in S.scope slots [] arguments) (meaning_of call.name.name S.scope) m in
    record { grows = g.grows; fits = λ l t. act_fits S _ _ d (g.fits l t) }
